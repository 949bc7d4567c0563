use Rattle.std.proofs.Common.{arith}
use Rattle.rb_ledger.proofs.ClockTables
use Rattle.rb_ledger.proofs.counts.clock_of_many.Goals as goal

pub loop-site-preserved : goal.loop-site-preserved
loop-site-preserved c = ClockTables.read_on c.args.kept.now c.loop-site.blue c.loop-site.site c.count.result c.loop-site.invariant
    (omega (arith, c.loop-site-test.true, c.len-site-end.ensures.same))
    (omega (arith, c.loop-site-test.true, c.len-site-end.ensures.same, c.len-site-end.ensures.most))
    c.count.ensures
