-- Elements of a prefix of a list.
use Rattle.rb_ledger.proofs.Words.{◌≡◌, ℕ, suc, ◌+◌, ◌<◌, List, [], ◌∷◌, ◌++◌, length, take, drop, ap, ◌∙◌, add-one}
use Rattle.rb_ledger.proofs.Words.{zero, refl, arith, Some, slice_get, slice_get_within, get_or_from_slice_get}
use Rattle.rb_ledger.proofs.Words.{take-suc, Shadow}

-- a prefix with the next operation is the next prefix
pub one_more : (us : List Shadow) (i : ℕ) (u : Shadow) → slice_get us i ≡ Some u → take (i + 1) us ≡ take i us ++ u ∷ []
one_more us i u e = let near : i < length us = slice_get_within us i u e in
    rw add-one (take-suc us i u near ∙ ap (λ (w : Shadow). take i us ++ w ∷ []) (get_or_from_slice_get us i u u e))

-- an item after the first ones is one of the list
pub get_dropped : {X : Type 0} (n : ℕ) (xs : List X) (i : ℕ) → slice_get (drop n xs) i ≡ slice_get xs (n + i)
get_dropped zero xs i = ap (slice_get xs) (let e : i ≡ 0 + i = omega arith in e)
get_dropped (suc n) [] i = refl
get_dropped (suc n) (x ∷ xs) i = get_dropped n xs i ∙ ap (slice_get (x ∷ xs)) (let e : suc (n + i) ≡ suc n + i = omega arith in e)

-- an item of a prefix is that of the list
pub get_taken : {X : Type 0} (n : ℕ) (xs : List X) (i : ℕ) → i < n → slice_get (take n xs) i ≡ slice_get xs i
get_taken zero xs i h = absurd (omega arith)
get_taken (suc n) [] i h = refl
get_taken (suc n) (x ∷ xs) zero h = refl
get_taken (suc n) (x ∷ xs) (suc i) h = get_taken n xs i (omega arith)

-- an item of a prefix is within it, and the list's
pub get_take : {X : Type 0} (n : ℕ) (xs : List X) (i : ℕ) (z : X) → slice_get (take n xs) i ≡ Some z → (i < n) × (slice_get xs i ≡ Some z)
get_take zero xs i z e = cc
get_take (suc n) [] i z e = cc
get_take (suc n) (x ∷ xs) zero z e = (omega arith, e)
get_take (suc n) (x ∷ xs) (suc i) z e = let r : (i < n) × (slice_get xs i ≡ Some z) = get_take n xs i z e in (omega arith, r.1)
