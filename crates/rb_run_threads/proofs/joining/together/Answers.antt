-- The serving threads' seats move to the end, one after the other.
use Rattle.std.proofs.Common.{ap, length, arith}
use Rattle.std.proofs.lemmas.Result.{IfOk-from_err}
use Rattle.std.specs.Vec.Iter.{into_iter_items}
use Rattle.rb_run_threads.proofs.Rows.{all_moved, moved}
use Rattle.rb_run_threads.proofs.joining.together.Goals as goal

pub returns-in_err-reserve : goal.returns-in_err-reserve
returns-in_err-reserve g c = IfOk-from_err c.from_residual.result _ c.from_residual.ensures.0

pub push_reserved-requires : goal.push_reserved-requires
push_reserved-requires g c = omega (arith, c.loop-seat.invariant.3, ap length c.in-Some.ensures.steps.0)

pub loop-seat-preserved : goal.loop-seat-preserved
loop-seat-preserved g c = (
  tt,
  tt,
  moved c.loop-seat.tellers.items _ (into_iter_items c.loop-seat.seat-iterator) _ _ c.in-Some.seat c.push_reserved.ensures.items
      c.in-Some.ensures.steps.0 c.loop-seat.invariant.2,
  omega (
    arith,
    c.loop-seat.invariant.3,
    ap length c.in-Some.ensures.steps.0,
    c.push_reserved.ensures.len,
    c.push_reserved.ensures.capacity,
  ),
)

pub returns : goal.returns
returns g c =
    all_moved c.loop-seat.tellers.items (into_iter_items c.loop-seat.seat-iterator) _ (omega (arith, c.in-None.ensures.steps.0))
    c.loop-seat.invariant.2
