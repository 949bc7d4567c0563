use Rattle.rb_runs.proofs.AtRest.{closed_agree}
use Rattle.rb_runs.proofs.books.laws.closed_balances_agree.Goals as goal

pub returns : goal.returns
returns c = closed_agree (c.laws_always_hold.ensures.headline, c.laws_always_hold.ensures.others)
