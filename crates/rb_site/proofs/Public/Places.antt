-- Lists, one place of them replaced.
use Rattle.std.proofs.Common.{◌≡◌, ◌≢◌, ℕ, zero, suc, List, [], ◌∷◌, refl, ap, arith, ◌⊎◌, inl, inr, Some}
use Rattle.std.specs.Prelude.{slice_get, slice_set, ◌==◌}
use Rattle.std.proofs.lemmas.Bool.Decides.{nat_tests}
use Rattle.rb_shadow.proofs.Public.Members

-- what is at the place that was replaced is what replaced it
pub get_set_same : {A : Type 0} (ts : List A) (i : ℕ) (t n : A) → slice_get ts i ≡ Some t → slice_get (slice_set ts i n) i ≡ Some n
get_set_same [] i t n h = cc
get_set_same (u ∷ ts) zero t n h = refl
get_set_same (u ∷ ts) (suc i) t n h = get_set_same ts i t n h

-- what is at another place stays
pub get_set_other : {A : Type 0} (ts : List A) (i j : ℕ) (n : A) → j ≢ i → slice_get (slice_set ts i n) j ≡ slice_get ts j
get_set_other [] i j n h = refl
get_set_other (u ∷ ts) zero zero n h = absurd (h refl)
get_set_other (u ∷ ts) zero (suc j) n h = refl
get_set_other (u ∷ ts) (suc i) zero n h = refl
get_set_other (u ∷ ts) (suc i) (suc j) n h = get_set_other ts i j n (λ e. h (ap suc e))

-- if one place is replaced twice, the second time alone counts
pub set_set : {A : Type 0} (ts : List A) (i : ℕ) (m n : A) → slice_set (slice_set ts i m) i n ≡ slice_set ts i n
set_set [] i m n = refl
set_set (u ∷ ts) zero m n = refl
set_set (u ∷ ts) (suc i) m n = ap (λ xs. u ∷ xs) (set_set ts i m n)

-- it is this place, or another
pub same_number : (i j : ℕ) → (j ≡ i) ⊎ (j ≢ i)
same_number i j = elim (Members.bool_cases (j == i)) [
  | inl e ↦ inl (grind (arith, nat_tests))
  | inr e ↦ inr (λ k. grind (arith, nat_tests))
]
