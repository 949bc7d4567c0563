-- A seat is that of its thread's result, which keeps the promise.
use Rattle.std.proofs.Common.{◌≡◌, ℕ, ◌<◌, vec_len, map, Ok, Some, length, arith, sym, ap, subst, ◌∙◌}
use Rattle.std.specs.Prelude.{slice_get}
use Rattle.std.proofs.lemmas.Result.{IfOk-weaker}
use Rattle.std.proofs.lemmas.Option.{slice_get-get_or}
use Rattle.rb_branch.specs.Seats.{SeenSeat}
use Rattle.rb_run_threads.proofs.Rows.{as_many, ended}
use Rattle.rb_run_threads.proofs.joining.join.Goals as goal

pub returns-clause-each : goal.returns-clause-each
returns-clause-each g c = IfOk-weaker c.all_ok.result (λ v. map Ok v.items ≡ c.in-Ok.results.items) (λ v. (k : ℕ) (seat : SeenSeat)
    → slice_get v.items k ≡ Some seat
    → (h : _) × (slice_get c.args.handles.items k ≡ Some h) × g.P.Promise.kept_by h.promise (Ok seat))
    (λ v is k seat at.
    let e = ended v.items c.in-Ok.results.items k seat is at in
    let within : k < vec_len c.args.handles = omega (arith, e.0, c.in-Ok.results.ok.0, c.in-Ok.ensures.len) in
    let inside : k < length c.args.handles.items = omega (arith, within, c.args.handles.ok.0) in
    let there = (c.in-Ok.ensures.each k (Ok seat) within).1 in (
      there.handle,
      slice_get-get_or c.args.handles.items k there.handle inside ∙ ap Some (sym there.handle_is),
      subst (g.P.Promise.kept_by there.handle.promise) e.1 there.kept,
    ))
    c.all_ok.ensures

pub returns-in_default-clause-len : goal.returns-in_default-clause-len
returns-in_default-clause-len g c = tt

pub returns-in_default-clause-each : goal.returns-in_default-clause-each
returns-in_default-clause-each g c = tt

pub returns-clause-len : goal.returns-clause-len
returns-clause-len g c =
    IfOk-weaker c.all_ok.result (λ v. map Ok v.items ≡ c.in-Ok.results.items) (λ v. vec_len v ≡ vec_len c.args.handles)
    (λ v is. omega (arith, v.ok.0, as_many v.items _ is, c.in-Ok.results.ok.0, c.in-Ok.ensures.len))
    c.all_ok.ensures
