use Rattle.std.proofs.Common.{ap, length, refl}
use Rattle.rb_branch.proofs.Served.{if_none, refuses_taken, refuses_then, serves_same, serves_taken}
use Rattle.rb_branch.proofs.branch.Branch.serve_once.Goals as goal

pub returns-in_err-taken-clause-served : goal.returns-in_err-taken-clause-served
returns-in_err-taken-clause-served g c =
    serves_same _ _ _ _ _ _ c.serve_locked-answer.ensures.served refl c.in_err-taken.ensures.err

pub returns-then-not-taken-clause-served : goal.returns-then-not-taken-clause-served
returns-then-not-taken-clause-served g c = serves_taken _ _ _ _ _ _ c.serve_locked-answer.ensures.served c.in_ok-taken.ensures.ok

pub returns-clause-served : goal.returns-clause-served
returns-clause-served g c = serves_taken _ _ _ _ _ _ c.serve_locked-answer.ensures.served c.in_ok-taken.ensures.ok

pub returns-clause-some : goal.returns-clause-some
returns-clause-some g c =
    let locked = if_none _ _ c.in_default.not-Some c.in_ok-next.ensures.none in
    refuses_then _ _ _ _ _ _ c.args.seat.now c.serve_locked-answer.new.seat c.serve_locked-answer.new.seat
    c.serve_locked-answer.ensures.served locked
    (refuses_taken _ c.serve_locked-answer.new.inlet c.take.new.self c.serve_locked-answer.new.seat _ (ap length c.kept-kept.ensures)
    c.in_ok-taken.ensures.ok)
