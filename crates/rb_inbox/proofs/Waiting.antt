-- What waits at a quiet clock, after a change of what is held or of the clock.
use Rattle.std.proofs.Common.{◌≡◌, ◌∙◌, ◌≤◌, ◌-◌, ℕ, Bool, true, false, cond, not, ◌&&◌, List, [], ◌∷◌, inl, inr, ap, sym, subst}
use Rattle.std.proofs.Common.{arith, refl}
use Rattle.std.specs.Prelude.{Option, Some, nat_le, slice_index}
use Rattle.std.proofs.lemmas.Bool.Decides.{nat_tests}
use Rattle.rb_shadow.specs.Operations.{Among, IsWithin, find_in, names_of_clock, same_name}
use Rattle.rb_shadow.specs.declared.deps.Deps.{Deps}
use Rattle.rb_shadow.specs.declared.op_name.OpName.{OpName}
use Rattle.rb_shadow.specs.declared.op_name.OpName.TheVariants.{Blue, Red}
use Rattle.rb_shadow.specs.declared.shadow.Shadow.{Shadow}
use Rattle.rb_shadow.proofs.Public.Members
use Rattle.rb_shadow.proofs.Public.Lookups.{found}
use Rattle.rb_inbox.specs.Held.{IsFirstReady, IsReady, without}
use Rattle.rb_inbox.specs.Quiet.{IsQuiet}
use Rattle.rb_inbox.specs.Rows.{AreHeldRows, held_of}
use Rattle.rb_inbox.specs.declared.quiet.Quiet.{Quiet}
use Rattle.rb_inbox.proofs.Readiness.{held_found}

-- what is left without a name is of another
left_other : (x : OpName) (us : List Shadow) (u : Shadow) → Among u (without x us) → same_name u.name x ≡ false
left_other x [] u a = elim a [ ]
left_other x (v ∷ us) u a = at (same_name v.name x) refl a (left_other x us u)
  where
    at : (b : Bool) → same_name v.name x ≡ b → Among u (cond (not b) (v ∷ without x us) (without x us))
        → (Among u (without x us) → same_name u.name x ≡ false) → same_name u.name x ≡ false
    at true e a rest = rest a
    at false e (inl q) rest = ap (λ (w : Shadow). same_name w.name x) q ∙ e
    at false e (inr a) rest = rest a

-- so it isn't the fresh one, if that is removed
pub not_removed : (x : OpName) (us : List Shadow) (u : Shadow) (fresh : Option OpName) → Among u (without x us) → fresh ≡ Some x
    → fresh ≡ Some u.name → ⊥
not_removed x us u fresh a e q =
    let named : u.name ≡ x = cc in
    let same : same_name u.name x ≡ true = subst (λ y. same_name u.name y ≡ true) named (Members.same_name-refl u.name) in
    Members.true≢false (sym same ∙ left_other x us u a)

-- the past isn't within a clock of which an entry is below its own
pub not_within_blue : (past quiet : Deps) (i : ℕ) → 1 ≤ slice_index past.blue i → slice_index quiet.blue i ≤ slice_index past.blue i - 1
    → IsWithin (names_of_clock past) (names_of_clock quiet) → ⊥
not_within_blue past quiet i some low w =
    let named : nat_le 1 (slice_index past.blue i) && nat_le (slice_index past.blue i) (slice_index past.blue i) ≡ true =
    grind (arith, nat_tests) in
    let counted = w (Blue i (slice_index past.blue i)) named in
    grind (arith, nat_tests)

-- nor within one whose entry of red operations is below its own
pub not_within_red : (past quiet : Deps) → 1 ≤ past.red → quiet.red ≤ past.red - 1
    → IsWithin (names_of_clock past) (names_of_clock quiet) → ⊥
not_within_red past quiet some low w =
    let named : nat_le 1 past.red && nat_le past.red past.red ≡ true = grind (arith, nat_tests) in
    let counted = w (Red past.red) named in
    grind (arith, nat_tests)

-- each operation is the one of its name
abbrev pub AreFound : List Shadow → Type 0
AreFound us = (u : Shadow) → Among u us → find_in us u.name ≡ Some u

-- the held ones are
pub are_found : (rows : List (List Shadow)) (us : List Shadow) → AreHeldRows 0 rows → held_of rows ≡ us → AreFound us
are_found rows us each same = subst AreFound same (λ u a. held_found rows u each a)

-- an operation that is ready at the clock is the fresh one
abbrev pub OnlyFresh : Option OpName → Deps → List Shadow → Type 0
OnlyFresh fresh c us = (u : Shadow) → Among u us → IsReady c u → fresh ≡ Some u.name

-- so it is at a clock within the quiet one
pub only_fresh : (o : Option Quiet) (q : Quiet) (c : Deps) (held us : List Shadow) → o ≡ Some q → held ≡ us → IsQuiet o held
    → IsWithin (names_of_clock c) (names_of_clock q.clock) → OnlyFresh q.fresh c us
only_fresh o q c held us e same h within u a ready =
    subst (λ o. IsQuiet o held) e h u (subst (Among u) (sym same) a) (λ x p. within x (ready x p))

-- the fresh one is the first, if it is ready
pub fresh_first : (us : List Shadow) (c : Deps) (fresh : Option OpName) (x : OpName) (v : Shadow) → AreFound us → OnlyFresh fresh c us
    → fresh ≡ Some x → find_in us x ≡ Some v → IsReady c v → IsFirstReady us c x
fresh_first us c fresh x v each only is there ready = (
  v,
  there,
  record {
    among = (found us x v there).0;
    ready = ready;
    first = λ u a r.
        let e = only u a r in
        let y : u.name ≡ x = cc in
        let same : find_in us x ≡ Some u = subst (λ y. find_in us y ≡ Some u) y (each u a) in
        inl (let e : u ≡ v = cc in e);
  },
)

-- nothing is ready, if the fresh one isn't
pub fresh_waits : (us : List Shadow) (c : Deps) (fresh : Option OpName) (x : OpName) → AreFound us → OnlyFresh fresh c us
    → fresh ≡ Some x → ((v : Shadow) → find_in us x ≡ Some v → ¬ IsReady c v) → (u : Shadow) → Among u us → ¬ IsReady c u
fresh_waits us c fresh x each only is waits u a r =
    let e = only u a r in
    let y : u.name ≡ x = cc in
    waits u (subst (λ y. find_in us y ≡ Some u) y (each u a)) r
