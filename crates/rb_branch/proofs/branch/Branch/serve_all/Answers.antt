use Rattle.std.proofs.Common.{subst}
use Rattle.std.specs.Prelude.{IfSome}
use Rattle.rb_branch.specs.Seats.{RefusesOn}
use Rattle.rb_branch.proofs.Served.{if_none, refused_none, refused_since, serves_more, serves_none}
use Rattle.rb_branch.proofs.branch.Branch.serve_all.Goals as goal

pub loop-init : goal.loop-init
loop-init g c = record { next = tt; finite = tt; served = serves_none _ _; front = refused_none _ _ }

pub returns-in_err-next-clause-served : goal.returns-in_err-next-clause-served
returns-in_err-next-clause-served g c = serves_more _ _ _ _ _ _ c.loop.invariant.served c.serve_once.ensures.served

pub returns-in_default-clause-served : goal.returns-in_default-clause-served
returns-in_default-clause-served g c = serves_more _ _ _ _ _ _ c.loop.invariant.served c.serve_once.ensures.served

pub loop-preserved : goal.loop-preserved
loop-preserved g c = record {
  next = tt;
  finite = tt;
  served = serves_more _ _ _ _ _ _ c.loop.invariant.served c.serve_once.ensures.served;
  front =
      refused_since _ _ _ _ _ c.args.seat.now c.loop.seat c.serve_once.new.seat c.loop.invariant.served c.loop.invariant.front
      (subst (λ o. IfSome o (λ n. RefusesOn c.loop.first c.loop.inlet c.loop.seat n c.serve_once.new.inlet c.serve_once.new.seat))
      c.in-Some-2.is c.in_ok-next.ensures.some);
}

pub returns-in_default-clause-refused : goal.returns-in_default-clause-refused
returns-in_default-clause-refused g c =
    refused_since _ _ _ _ _ c.args.seat.now c.loop.seat c.serve_once.new.seat c.loop.invariant.served c.loop.invariant.front
    (if_none _ _ c.in_default.not-Some c.in_ok-next.ensures.none)
