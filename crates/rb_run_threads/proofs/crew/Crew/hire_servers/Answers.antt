-- Each serving thread's promise is that of its place.
use Rattle.std.proofs.Common.{◌≡◌, length, sym, ap, ◌∙◌, arith}
use Rattle.std.specs.Prelude.{slice_get}
use Rattle.std.proofs.lemmas.Result.{IfOk-from_err}
use Rattle.rb_run_threads.proofs.Rows.{promise_push, server_at}
use Rattle.rb_run_threads.proofs.crew.Crew.hire_servers.Goals as goal

pub returns-in_err-handles-clause-len : goal.returns-in_err-handles-clause-len
returns-in_err-handles-clause-len g c = IfOk-from_err c.from_residual.result _ c.from_residual.ensures.0

pub returns-in_err-handles-clause-each : goal.returns-in_err-handles-clause-each
returns-in_err-handles-clause-each g c = IfOk-from_err c.from_residual.result _ c.from_residual.ensures.0

pub returns-in_err-handle-clause-len : goal.returns-in_err-handle-clause-len
returns-in_err-handle-clause-len g c = IfOk-from_err c.from_residual-in_err-handle.result _ c.from_residual-in_err-handle.ensures.0

pub returns-in_err-handle-clause-each : goal.returns-in_err-handle-clause-each
returns-in_err-handle-clause-each g c = IfOk-from_err c.from_residual-in_err-handle.result _ c.from_residual-in_err-handle.ensures.0

pub push_reserved-requires : goal.push_reserved-requires
push_reserved-requires g c = omega (arith, c.loop-site.invariant.0, c.loop-site.invariant.1)

pub loop-site-preserved : goal.loop-site-preserved
loop-site-preserved g c =
    let len : length c.loop-site.handles.items ≡ c.loop-site.site = sym c.loop-site.handles.ok.0 ∙ c.loop-site.invariant.0 in
    let here : c.in_ok-handle.handle.promise ≡ server_at c.loop-site.site = c.in_ok-handle.ensures in (
      omega (arith, c.loop-site.invariant.0, c.push_reserved.ensures.len),
      omega (arith, c.loop-site.invariant.1, c.push_reserved.ensures.capacity),
      omega (arith, c.loop-site.invariant.2, c.remove-inlet.ensures.len),
      promise_push server_at c.loop-site.handles.items c.push_reserved.new.self.items c.in_ok-handle.handle (λ h. h.promise)
          c.loop-site.site c.push_reserved.ensures.items len c.loop-site.invariant.3 here,
    )

pub returns-clause-each : goal.returns-clause-each
returns-clause-each g c = c.loop-site.invariant.3

pub loop-site-init : goal.loop-site-init
loop-site-init g c = (
  c.in_ok-handles.ensures.len,
  omega (arith, c.in_ok-handles.ensures.capacity),
  omega (arith, c.requires),
  λ k h at. cc (ap (λ l. slice_get l k) c.in_ok-handles.ensures.items, at),
)

pub returns-clause-len : goal.returns-clause-len
returns-clause-len g c = omega (arith, c.loop-site.invariant.0)

pub remove-inlet-requires : goal.remove-inlet-requires
remove-inlet-requires g c = omega (arith, c.loop-site.invariant.2)
