-- Sums over lists of operations.
use Rattle.std.proofs.Common.{◌≡◌, Bool, true, false, cond, List, [], ◌∷◌, ◌++◌, refl, arith, inl, inr}
use Rattle.std.specs.Prelude.{ℤ, pos, ◌+ℤ◌, ◌≤ℤ◌, filter}
use Rattle.std.proofs.lemmas.Int.{ints}
use Rattle.rb_shadow.specs.declared.shadow.Shadow.{Shadow}
use Rattle.rb_shadow.specs.Operations.{total, Among}

-- the sum over two lists together
pub total-append : (f : Shadow → ℤ) (us vs : List Shadow) → total f (us ++ vs) ≡ total f us +ℤ total f vs
total-append f [] vs = omega (arith, ints)
total-append f (u ∷ us) vs = omega (arith, ints, total-append f us vs)

-- the sum with one in the middle
pub total-middle : (f : Shadow → ℤ) (us vs : List Shadow) (v : Shadow) → total f (us ++ v ∷ vs) ≡ f v +ℤ total f (us ++ vs)
total-middle f us vs v = omega (arith, ints, total-append f us (v ∷ vs), total-append f us vs)

-- the sum over some, with 0 for the others
pub total-filter : (p : Shadow → Bool) (f : Shadow → ℤ) (us : List Shadow) →
    total f (filter p us) ≡ total (λ u. cond (p u) (f u) (pos 0)) us
total-filter p f [] = refl
total-filter p f (u ∷ us) = at (p u) (total-filter p f us)
  where
    at : (b : Bool) → total f (filter p us) ≡ total (λ v. cond (p v) (f v) (pos 0)) us →
        total f (cond b (u ∷ filter p us) (filter p us)) ≡ cond b (f u) (pos 0) +ℤ total (λ v. cond (p v) (f v) (pos 0)) us
    at true e = omega (arith, ints)
    at false e = omega (arith, ints)

-- a sum is at most another if each number is
pub total-le : (f g : Shadow → ℤ) (us : List Shadow) → ((u : Shadow) → Among u us → f u ≤ℤ g u) → total f us ≤ℤ total g us
total-le f g [] h = omega (arith, ints)
total-le f g (u ∷ us) h = omega (arith, ints, h u (inl refl), total-le f g us (λ v k. h v (inr k)))

-- the sum of numbers that are equal
pub total-same : (f g : Shadow → ℤ) (us : List Shadow) → ((u : Shadow) → Among u us → f u ≡ g u) → total f us ≡ total g us
total-same f g [] h = refl
total-same f g (u ∷ us) h = omega (arith, ints, h u (inl refl), total-same f g us (λ v k. h v (inr k)))

-- the sum of zeros
pub total-none : (us : List Shadow) → total (λ _. pos 0) us ≡ pos 0
total-none [] = refl
total-none (u ∷ us) = omega (arith, ints, total-none us)
