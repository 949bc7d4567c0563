-- The position at which an operation is found.
use Rattle.std.proofs.Common.{◌≡◌, ℕ, ◌+◌, ◌≤◌, Bool, true, false, cond, ◌||◌, List, [], ◌∷◌, refl, suc, ap, ◌∙◌, arith, Some, None, subst}
use Rattle.std.specs.Prelude.{◌-◌, slice_get}
use Rattle.rb_money.proofs.Public.Tests.{positive}
use Rattle.rb_shadow.specs.declared.shadow.Shadow.{Shadow}
use Rattle.rb_shadow.specs.declared.op_name.OpName.{OpName}
use Rattle.rb_shadow.specs.Operations.{same_name, names, find_in}
use Rattle.rb_shadow.proofs.Public.Members
use Rattle.rb_ledger.specs.Valid.{operation_at, find_position, position_from}

-- what isn't named isn't found
pub find_in-unnamed : (us : List Shadow) (x : OpName) → names us x ≡ false → find_in us x ≡ None
find_in-unnamed [] x h = refl
find_in-unnamed (u ∷ us) x h =
    let (first, rest) = Members.or-false _ _ h in
    ap (λ b. cond b (Some u) (find_in us x)) first ∙ find_in-unnamed us x rest

-- what is at the position of a named operation is what is found
position-found : (us : List Shadow) (x : OpName) (k : ℕ) → names us x ≡ true →
    (k ≤ position_from k us x) × (slice_get us (position_from k us x - k) ≡ find_in us x)
position-found [] x k h = cc
position-found (u ∷ us) x k h = at (same_name u.name x) h (position-found us x (k + 1))
  where
    first : (n : ℕ) → n - n ≡ 0
    first n = omega arith

    further : (p n : ℕ) → n + 1 ≤ p → slice_get us (p - (n + 1)) ≡ find_in us x → slice_get (u ∷ us) (p - n) ≡ find_in us x
    further p n low e = let step : p - n ≡ suc (p - (n + 1)) = omega arith in rw step e

    at : (b : Bool) → (b || names us x) ≡ true → (names us x ≡ true → (k + 1 ≤ position_from (k + 1) us x)
        × (slice_get us (position_from (k + 1) us x - (k + 1)) ≡ find_in us x))
        → (k ≤ cond b k (position_from (k + 1) us x)) × (slice_get (u ∷ us) (cond b k (position_from (k + 1) us x) - k)
        ≡ cond b (Some u) (find_in us x))
    at true h more = (omega arith, rw (first k) refl)
    at false h more =
        let q : (k + 1 ≤ position_from (k + 1) us x) × (slice_get us (position_from (k + 1) us x - (k + 1)) ≡ find_in us x) = more h in
        (let low = q.0 in omega arith, further (position_from (k + 1) us x) k q.0 q.1)

-- under a name that wasn't found there is no operation
pub no_position : (us : List Shadow) (x : OpName) → find_position us x ≡ None → find_in us x ≡ None
no_position us x h = at (names us x) refl h
  where
    at : (b : Bool) → names us x ≡ b → cond b (Some (position_from 1 us x)) None ≡ None → find_in us x ≡ None
    at true e h = cc
    at false e h = find_in-unnamed us x e

-- at the position of a name there is its operation
pub at_position : (us : List Shadow) (x : OpName) (p : ℕ) → find_position us x ≡ Some p → operation_at us p ≡ find_in us x
at_position us x p h = at (names us x) refl h
  where
    at : (b : Bool) → names us x ≡ b → cond b (Some (position_from 1 us x)) None ≡ Some p → operation_at us p ≡ find_in us x
    at true e h =
        let q : (1 ≤ position_from 1 us x) × (slice_get us (position_from 1 us x - 1) ≡ find_in us x) = position-found us x 1 e in
        let is : position_from 1 us x ≡ p = cc in
        subst (λ n. operation_at us n ≡ find_in us x) is (ap (λ b. cond b None (slice_get us (position_from 1 us x - 1)))
        (positive (position_from 1 us x) q.0) ∙ q.1)
    at false e h = cc
