use Rattle.rb_node.proofs.OneAnswer.{others_are_refused}
use Rattle.rb_node.proofs.other_banks_are_refused.Goals as goal

pub returns : goal.returns
returns c = others_are_refused
