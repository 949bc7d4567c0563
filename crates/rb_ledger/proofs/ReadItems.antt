-- Reads of lists, rows and options.
use Rattle.rb_ledger.proofs.Words.{◌≡◌, ℕ, zero, suc, ◌+◌, ◌-◌, ◌<◌, ◌≤◌, List, length, take, get_or, refl, ap, sym}
use Rattle.rb_ledger.proofs.Words.{◌∙◌, arith, Some, None, Bor, slice_get, Option, option_copied, IsGetResult}
use Rattle.rb_ledger.proofs.Words.{slice_get_read, slice_get_past}

-- an item that was read, as one of the same list at the same index
pub read_at : {X : Type 0} (xs ys : List X) (i j : ℕ) (x : X) → ys ≡ xs → i ≡ j → slice_get ys i ≡ Some x → slice_get xs j ≡ Some x
read_at xs ys i j x same at read = ap (λ zs. slice_get zs j) (sym same) ∙ ap (slice_get ys) (sym at) ∙ read

-- an item that is there, as `slice_get` reads it
pub read_item : {X : Type 0} (xs : List X) (i j m : ℕ) (x : X) → m ≡ length xs → i < m → i ≡ j → x ≡ get_or xs i x → slice_get xs j ≡ Some x
read_item xs i j m x count near at read = ap (slice_get xs) (sym at) ∙ slice_get_read xs m i x count near read

-- what a pop leaves, if the list was one longer
pub shorter : {X : Type 0} (xs ys : List X) (m n : ℕ) → length xs ≡ n + 1 → m ≡ length xs → ys ≡ take (m - 1) xs → ys ≡ take n xs
shorter xs ys m n long count is = is ∙ ap (λ k. take k xs) (let z : m - 1 ≡ n = omega (arith, long, count) in z)

-- what `get` and `copied` give of a list
pub copied_get : {X : Type 0} (xs : List X) (i : ℕ) (r : Option (Bor X)) (o : Option X) → IsGetResult xs i i r → o ≡ option_copied r →
    o ≡ slice_get xs i
copied_get xs i None o looked is = is ∙ sym (slice_get_past xs i looked.3)
copied_get xs i (Some b) o looked is = is ∙ sym (slice_get_read xs (length xs) i b.now refl looked.3.0 looked.1)

-- a number that isn't 0
pub positive : (p : ℕ) → (p ≡ 0 → ⊥) → 0 < p
positive zero h = absurd (h refl)
positive (suc p) h = omega arith

-- a number that isn't 1 or more is 0
pub not_one : (n : ℕ) → (1 ≤ n → ⊥) → n ≡ 0
not_one zero h = refl
not_one (suc n) h = absurd (h (omega arith))
