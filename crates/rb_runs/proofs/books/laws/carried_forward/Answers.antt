use Rattle.rb_runs.proofs.Carried.{all_carried}
use Rattle.rb_runs.proofs.books.laws.carried_forward.Goals as goal

pub returns : goal.returns
returns c = all_carried (c.laws_always_hold.ensures.headline, c.laws_always_hold.ensures.others)
