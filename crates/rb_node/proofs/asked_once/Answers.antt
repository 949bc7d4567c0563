use Rattle.rb_node.proofs.Once.{answers_are_the_same, ids_stay_once}
use Rattle.rb_node.proofs.asked_once.Goals as goal

pub returns : goal.returns
returns c = record { once = ids_stay_once; same = answers_are_the_same }
