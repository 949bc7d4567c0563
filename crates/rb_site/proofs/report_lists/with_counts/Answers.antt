-- One count more.
use Rattle.std.proofs.Common.{◌≡◌, ◌∙◌, ◌<◌, ◌≤◌, ℕ, ◌+◌, List, ◌++◌, [], ◌∷◌, ap, arith, length, map, subst, sym, suc, false}
use Rattle.std.specs.Prelude.{zero, Option, Some, None, if◌then◌else◌, ◌==◌, ◌-◌, option_map, slice_get, take, vec_len, vec_capacity}
use Rattle.std.proofs.lemmas.Bool.Decides.{nat_tests}
use Rattle.rb_shadow.specs.Operations.{cancel_count}
use Rattle.rb_shadow.specs.declared.shadow.Shadow.{Shadow}
use Rattle.rb_site.proofs.Reports.{more_counts, room_left, whole}
use Rattle.rb_site.proofs.report_lists.with_counts.Goals as goal

-- the count of an entry whose place from 0 is k, if there is one
counted : (f : Shadow → ℕ) (us : List Shadow) (k : ℕ) (n : Option ℕ) →
    n ≡ option_map f (if k + 1 == 0 then None else slice_get us (k + 1 - 1)) → option_map f (slice_get us k) ≡ n
counted f us k n h =
    let test : (k + 1 == 0) ≡ false = grind (arith, nat_tests) in
    let less : k + 1 - 1 ≡ k = omega arith in
    sym (h ∙ ap (λ b. option_map f (if b then None else slice_get us (k + 1 - 1))) test ∙ ap (λ i. option_map f (slice_get us i)) less)

-- there is one at each place of the list
some_at : (f : Shadow → ℕ) (us : List Shadow) (k : ℕ) → k < length us → option_map f (slice_get us k) ≡ None → ⊥
some_at f [] k there h = omega arith
some_at f (u ∷ us) zero there h = cc
some_at f (u ∷ us) (suc k) there h = some_at f us k (omega arith) h

pub loop-before-preserved : goal.loop-before-preserved
loop-before-preserved c = (
  let f : Shadow → ℕ = λ u. cancel_count c.args.ledger.now.entries u.name in
      let next : suc c.loop-before.before ≡ c.loop-before.before + 1 = omega arith in
      c.push_reserved.ensures.items
      ∙ ap (λ ns. ns ++ c.in-Some.count ∷ []) c.loop-before.invariant.0
      ∙ more_counts f c.args.ledger.now.entries c.loop-before.before c.in-Some.count
      (counted f c.args.ledger.now.entries c.loop-before.before (Some c.in-Some.count) c.in-Some.ensures)
      ∙ ap (λ k. map f (take k c.args.ledger.now.entries)) next,
  c.push_reserved.ensures.len ∙ ap (λ n. n + 1) c.loop-before.invariant.1,
  (let P : ℕ → Type 0 = λ n. length c.args.ledger.now.entries ≤ n in subst P (sym c.push_reserved.ensures.capacity)
      c.loop-before.invariant.2),
)

pub loop-before-init : goal.loop-before-init
loop-before-init c = (c.requires.empty, c.args.counts.ok.0 ∙ ap length c.requires.empty, c.requires.room)

pub overflow_add-before : goal.overflow_add-before
overflow_add-before c = omega (arith, c.loop-before-test.true, c.len-entries.ensures.few)

pub push_reserved-requires : goal.push_reserved-requires
push_reserved-requires c = room_left (vec_len c.loop-before.counts) (vec_capacity c.loop-before.counts) c.loop-before.before
    c.len-entries.result (length c.args.ledger.now.entries) c.loop-before.invariant.1 c.loop-before-test.true c.len-entries.ensures.same
    c.loop-before.invariant.2

pub unreachable-requires : goal.unreachable-requires
unreachable-requires c =
    let f : Shadow → ℕ = λ u. cancel_count c.args.ledger.now.entries u.name in
    some_at f c.args.ledger.now.entries c.loop-before.before
    (subst (λ n. c.loop-before.before < n) c.len-entries.ensures.same c.loop-before-test.true)
    (counted f c.args.ledger.now.entries c.loop-before.before None c.in-None.ensures)

pub returns : goal.returns
returns c =
    let f : Shadow → ℕ = λ u. cancel_count c.args.ledger.now.entries u.name in
    c.loop-before.invariant.0 ∙ ap (map f) (whole c.args.ledger.now.entries c.loop-before.before c.len-entries.result
    c.len-entries.ensures.same c.loop-before-test.false)
