use Rattle.rb_runs.proofs.Periods.{one_bank}
use Rattle.rb_runs.proofs.books.laws.periods_are_one.Goals as goal

pub returns : goal.returns
returns c = one_bank (c.laws_always_hold.ensures.headline, c.laws_always_hold.ensures.others)
