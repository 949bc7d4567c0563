use Rattle.rb_node.proofs.OneAnswer.{one_answer}
use Rattle.rb_node.proofs.answers_are_one.Goals as goal

pub returns : goal.returns
returns c = one_answer
