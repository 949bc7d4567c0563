-- Each teller's promise is that of its place.
use Rattle.std.proofs.Common.{◌≡◌, length, sym, ap, ◌∙◌, arith}
use Rattle.std.specs.Prelude.{slice_get}
use Rattle.std.proofs.lemmas.Result.{IfOk-from_err}
use Rattle.rb_run_threads.proofs.Rows.{promise_push, teller_at}
use Rattle.rb_run_threads.proofs.crew.Crew.hire_tellers.Goals as goal

pub returns-in_err-handles-clause-len : goal.returns-in_err-handles-clause-len
returns-in_err-handles-clause-len g c = IfOk-from_err c.from_residual.result _ c.from_residual.ensures.0

pub returns-in_err-handles-clause-each : goal.returns-in_err-handles-clause-each
returns-in_err-handles-clause-each g c = IfOk-from_err c.from_residual.result _ c.from_residual.ensures.0

pub returns-in_err-handle-clause-len : goal.returns-in_err-handle-clause-len
returns-in_err-handle-clause-len g c = IfOk-from_err c.from_residual-in_err-handle.result _ c.from_residual-in_err-handle.ensures.0

pub returns-in_err-handle-clause-each : goal.returns-in_err-handle-clause-each
returns-in_err-handle-clause-each g c = IfOk-from_err c.from_residual-in_err-handle.result _ c.from_residual-in_err-handle.ensures.0

pub push_reserved-requires : goal.push_reserved-requires
push_reserved-requires g c = omega (arith, c.loop-t.invariant.0, c.loop-t.invariant.1)

pub loop-t-preserved : goal.loop-t-preserved
loop-t-preserved g c =
    let len : length c.loop-t.handles.items ≡ c.loop-t.t = sym c.loop-t.handles.ok.0 ∙ c.loop-t.invariant.0 in
    let here : c.in_ok-handle.handle.promise ≡ teller_at c.args.seed c.args.self.now.sites c.loop-t.t = c.in_ok-handle.ensures in (
      omega (arith, c.loop-t.invariant.0, c.push_reserved.ensures.len),
      omega (arith, c.loop-t.invariant.1, c.push_reserved.ensures.capacity),
      promise_push (teller_at c.args.seed c.args.self.now.sites) c.loop-t.handles.items c.push_reserved.new.self.items
          c.in_ok-handle.handle (λ h. h.promise) c.loop-t.t c.push_reserved.ensures.items len c.loop-t.invariant.2 here,
    )

pub returns-clause-each : goal.returns-clause-each
returns-clause-each g c = c.loop-t.invariant.2

pub loop-t-init : goal.loop-t-init
loop-t-init g c = (
  c.in_ok-handles.ensures.len,
  omega (arith, c.in_ok-handles.ensures.capacity),
  λ i h at. cc (ap (λ l. slice_get l i) c.in_ok-handles.ensures.items, at),
)

pub returns-clause-len : goal.returns-clause-len
returns-clause-len g c = omega (arith, c.loop-t.invariant.0)
