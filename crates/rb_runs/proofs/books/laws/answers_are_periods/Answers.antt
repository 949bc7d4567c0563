use Rattle.rb_runs.proofs.Periods.{answered}
use Rattle.rb_runs.proofs.books.laws.answers_are_periods.Goals as goal

pub returns : goal.returns
returns c = answered
