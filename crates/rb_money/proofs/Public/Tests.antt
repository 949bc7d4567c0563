-- Tests of numbers, and places by their numbers.
use Rattle.std.proofs.Common.{◌≡◌, ℕ, ◌<◌, ◌≤◌, true, false, not, arith, inl, inr}
use Rattle.std.specs.Prelude.{◌==◌, nat_le, nat_lt}
use Rattle.std.proofs.lemmas.Bool.{cases_Bool}
use Rattle.std.proofs.lemmas.Bool.Decides.{nat_tests}
use Rattle.rb_money.specs.declared.place.Place.{Place}

-- places of equal numbers are equal
pub same_place : (a b : Place) → a.0 ≡ b.0 → a ≡ b
same_place a b e = λ i. record { 0 = e i }

-- a number is the same as itself
pub number_same : (n : ℕ) → (n == n) ≡ true
number_same n = grind (arith, nat_tests)

-- numbers that are the same are equal
pub number_sound : (m n : ℕ) → (m == n) ≡ true → m ≡ n
number_sound m n h = grind (arith, nat_tests)

-- equal numbers are the same
pub equal : (m n : ℕ) → m ≡ n → (m == n) ≡ true
equal m n h = grind (arith, nat_tests)

-- numbers that aren't equal aren't the same
pub unequal : (m n : ℕ) → (m ≡ n → ⊥) → (m == n) ≡ false
unequal m n h = elim (cases_Bool (m == n)) [ inl e ↦ absurd (h (number_sound m n e)) | inr e ↦ e ]

-- numbers that aren't different are equal
pub alike : (m n : ℕ) → not (m == n) ≡ false → m ≡ n
alike m n h = grind (arith, nat_tests)

-- a number from 1 on isn't 0
pub positive : (n : ℕ) → 1 ≤ n → (n == 0) ≡ false
positive n h = grind (arith, nat_tests)

-- a number that is less is below
pub is_below : (m n : ℕ) → m < n → nat_lt m n ≡ true
is_below m n h = grind (arith, nat_tests)

-- a number that is at least another isn't below it
pub not_below : (m n : ℕ) → n ≤ m → nat_lt m n ≡ false
not_below m n h = grind (arith, nat_tests)

-- a number that isn't below another is at least it
pub at_most : (m n : ℕ) → nat_lt m n ≡ false → n ≤ m
at_most m n h = grind (arith, nat_tests)

-- a number that isn't at most another is above it
pub above : (m n : ℕ) → nat_le m n ≡ false → n < m
above m n h = grind (arith, nat_tests)
