use Rattle.std.proofs.Common.{subst}
use Rattle.std.specs.Prelude.{IfSome}
use Rattle.rb_branch.specs.Seats.{RefusesOn}
use Rattle.rb_branch.proofs.Served.{if_none, refuses_same, refuses_then, serves_more, serves_none}
use Rattle.rb_branch.proofs.branch.Branch.serve_locked.Goals as goal

pub loop-k-init : goal.loop-k-init
loop-k-init g c = record { served = serves_none _ _; front = refuses_same c.args.first c.args.inlet.now c.args.seat.now }

pub returns-in_err-index-clause-served : goal.returns-in_err-index-clause-served
returns-in_err-index-clause-served g c = serves_more _ _ _ _ _ _ c.loop-k.invariant.served c.serve_step.ensures.served

pub returns-in_default-clause-served : goal.returns-in_default-clause-served
returns-in_default-clause-served g c = serves_more _ _ _ _ _ _ c.loop-k.invariant.served c.serve_step.ensures.served

pub returns-in_default-clause-none : goal.returns-in_default-clause-none
returns-in_default-clause-none g c =
    refuses_then _ _ _ _ _ _ c.args.seat.now c.loop-k.seat c.serve_step.new.seat c.loop-k.invariant.served c.loop-k.invariant.front
    (if_none _ _ c.in_default.not-Some c.in_ok-index.ensures.none)

pub loop-k-preserved : goal.loop-k-preserved
loop-k-preserved g c = record {
  served = serves_more _ _ _ _ _ _ c.loop-k.invariant.served c.serve_step.ensures.served;
  front =
      refuses_then _ _ _ _ _ _ c.args.seat.now c.loop-k.seat c.serve_step.new.seat c.loop-k.invariant.served
      c.loop-k.invariant.front
      (subst (λ o. IfSome o (λ n. RefusesOn c.loop-k.next c.loop-k.inlet c.loop-k.seat n c.serve_step.new.inlet c.serve_step.new.seat))
      c.in-Some.is c.in_ok-index.ensures.some);
}

pub returns-clause-served : goal.returns-clause-served
returns-clause-served g c = c.loop-k.invariant.served

pub returns-clause-some : goal.returns-clause-some
returns-clause-some g c = c.loop-k.invariant.front
