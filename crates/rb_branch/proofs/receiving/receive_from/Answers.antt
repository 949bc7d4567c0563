use Rattle.std.proofs.Common.{ap, arith, length}
use Rattle.rb_branch.proofs.Served.{refuses_all, refuses_same, refuses_then, serves_more, serves_none}
use Rattle.rb_branch.proofs.receiving.receive_from.Goals as goal

pub loop-index-init : goal.loop-index-init
loop-index-init g c = record { served = serves_none _ _; front = refuses_same c.args.first c.args.inlet.now c.args.seat.now }

pub returns-in_err-index-clause-served : goal.returns-in_err-index-clause-served
returns-in_err-index-clause-served g c = serves_more _ _ _ _ _ _ c.loop-index.invariant.served c.receive_at.ensures.served

pub loop-index-preserved : goal.loop-index-preserved
loop-index-preserved g c = record {
  served = serves_more _ _ _ _ _ _ c.loop-index.invariant.served c.receive_at.ensures.served;
  front =
      refuses_then _ _ _ _ _ _ c.args.seat.now c.loop-index.seat c.receive_at.new.seat c.loop-index.invariant.served
      c.loop-index.invariant.front c.in_ok-index.ensures.refused;
}

pub returns-clause-served : goal.returns-clause-served
returns-clause-served g c = c.loop-index.invariant.served

pub returns-clause-refused : goal.returns-clause-refused
returns-clause-refused g c =
    refuses_all _ _ _ c.loop-index.inlet c.args.seat.now c.loop-index.seat c.loop-index.invariant.front
    (omega (arith, c.loop-index-test.false, ap length c.kept.ensures))
