use Rattle.std.proofs.Common.{ap, arith, length}
use Rattle.rb_ledger.proofs.ClockTables
use Rattle.rb_ledger.proofs.kept_clock.KeptClock.len.Goals as goal

pub returns-clause-same : goal.returns-clause-same
returns-clause-same c = omega (arith, ClockTables.sums_count _ _ c.self.invariant.base, ap length c.self.view_is)
