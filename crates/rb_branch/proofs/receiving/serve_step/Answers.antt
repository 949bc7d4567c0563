use Rattle.std.proofs.Common.{ap, length, refl}
use Rattle.rb_branch.proofs.Served.{refuses_applied, refuses_none, refuses_taken, refuses_then, refuses_untaken, serves_ready, serves_same}
use Rattle.rb_branch.proofs.Served.{serves_taken}
use Rattle.rb_branch.proofs.receiving.serve_step.Goals as goal

pub returns-in_err-receive_from-clause-served : goal.returns-in_err-receive_from-clause-served
returns-in_err-receive_from-clause-served g c = c.receive_from.ensures.served

pub returns-in_err-apply_at-clause-served : goal.returns-in_err-apply_at-clause-served
returns-in_err-apply_at-clause-served g c =
    serves_same _ _ _ _ _ _ c.receive_from.ensures.served c.in_err-apply_at.ensures.err refl

pub returns-then-is_some-clause-served : goal.returns-then-is_some-clause-served
returns-then-is_some-clause-served g c = serves_ready _ _ _ _ _ _ c.receive_from.ensures.served c.in_ok-apply_at.ensures.ok

pub returns-in_err-taken-clause-served : goal.returns-in_err-taken-clause-served
returns-in_err-taken-clause-served g c =
    serves_same _ _ _ _ _ _ (serves_ready _ _ _ _ _ _ c.receive_from.ensures.served c.in_ok-apply_at.ensures.ok) refl
    c.in_err-taken.ensures.err

pub returns-then-not-taken-clause-served : goal.returns-then-not-taken-clause-served
returns-then-not-taken-clause-served g c =
    serves_taken _ _ _ _ _ _ (serves_ready _ _ _ _ _ _ c.receive_from.ensures.served c.in_ok-apply_at.ensures.ok)
    c.in_ok-taken.ensures.ok

pub returns-clause-served : goal.returns-clause-served
returns-clause-served g c =
    serves_taken _ _ _ _ _ _ (serves_ready _ _ _ _ _ _ c.receive_from.ensures.served c.in_ok-apply_at.ensures.ok)
    c.in_ok-taken.ensures.ok

pub returns-then-is_some-clause-some : goal.returns-then-is_some-clause-some
returns-then-is_some-clause-some g c =
    refuses_none c.args.first c.args.inlet.now c.receive_from.new.inlet c.args.seat.now c.apply_at.new.seat

pub returns-then-not-taken-clause-none : goal.returns-then-not-taken-clause-none
returns-then-not-taken-clause-none g c =
    let applied = refuses_applied _ _ c.receive_from.new.seat c.apply_at.new.seat _ c.in_ok-apply_at.ensures.ok in
    let both =
    refuses_then _ _ _ _ _ _ c.args.seat.now c.receive_from.new.seat c.apply_at.new.seat c.receive_from.ensures.served
    c.in_ok-receive_from.ensures.refused applied in
    let served = serves_ready _ _ _ _ _ _ c.receive_from.ensures.served c.in_ok-apply_at.ensures.ok in
    refuses_then _ _ _ _ _ _ c.args.seat.now c.apply_at.new.seat c.apply_at.new.seat served both
    (refuses_untaken c.receive_from.new.inlet c.take_come.new.self c.apply_at.new.seat _ c.if-not-taken.true c.in_ok-taken.ensures.ok)

pub returns-clause-some : goal.returns-clause-some
returns-clause-some g c =
    let applied = refuses_applied _ _ c.receive_from.new.seat c.apply_at.new.seat _ c.in_ok-apply_at.ensures.ok in
    let both =
    refuses_then _ _ _ _ _ _ c.args.seat.now c.receive_from.new.seat c.apply_at.new.seat c.receive_from.ensures.served
    c.in_ok-receive_from.ensures.refused applied in
    let served = serves_ready _ _ _ _ _ _ c.receive_from.ensures.served c.in_ok-apply_at.ensures.ok in
    refuses_then _ _ _ _ _ _ c.args.seat.now c.apply_at.new.seat c.apply_at.new.seat served both
    (refuses_taken _ c.receive_from.new.inlet c.take_come.new.self c.apply_at.new.seat _ (ap length c.kept-kept.ensures)
    c.in_ok-taken.ensures.ok)
