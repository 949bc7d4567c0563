-- The seats of the results move to their list, one after the other.
use Rattle.std.proofs.Common.{Ok, map, ap, length, [], ◌∷◌, ◌∙◌, arith}
use Rattle.std.proofs.lemmas.List.{map-append}
use Rattle.std.proofs.lemmas.Result.{IfOk-from_err}
use Rattle.std.specs.Vec.Iter.{into_iter_items}
use Rattle.rb_run_threads.proofs.Rows.{all_moved, moved}
use Rattle.rb_run_threads.proofs.joining.all_ok.Goals as goal

pub returns-in_err-seats : goal.returns-in_err-seats
returns-in_err-seats g c = IfOk-from_err c.from_residual.result _ c.from_residual.ensures.0

pub push_reserved-requires : goal.push_reserved-requires
push_reserved-requires g c =
    omega (arith, c.loop-outcome.invariant.3, c.loop-outcome.invariant.4, ap length c.in-Some.ensures.steps.0)

pub loop-outcome-preserved : goal.loop-outcome-preserved
loop-outcome-preserved g c = (
  tt,
  tt,
  moved (map Ok c.loop-outcome.seats.items) _ (into_iter_items c.loop-outcome.outcome-iterator) _ _ (Ok c.in_ok-seat.seat)
      (ap (map Ok) c.push_reserved.ensures.items ∙ map-append Ok c.loop-outcome.seats.items (c.in_ok-seat.seat ∷ []))
      (c.in-Some.ensures.steps.0 ∙ ap (λ r. r ∷ into_iter_items c.next.new.self) c.in_ok-seat.was) c.loop-outcome.invariant.2,
  omega (arith, c.loop-outcome.invariant.3, c.push_reserved.ensures.capacity),
  omega (arith, c.loop-outcome.invariant.4, c.push_reserved.ensures.len, ap length c.in-Some.ensures.steps.0),
)

pub returns : goal.returns
returns g c =
    all_moved (map Ok c.loop-outcome.seats.items) (into_iter_items c.loop-outcome.outcome-iterator) _
    (omega (arith, c.in-None.ensures.steps.0)) c.loop-outcome.invariant.2

pub returns-in_err-seat : goal.returns-in_err-seat
returns-in_err-seat g c = IfOk-from_err c.from_residual-in_err-seat.result _ c.from_residual-in_err-seat.ensures.0
