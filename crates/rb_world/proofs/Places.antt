-- Lists, by their places.
use Rattle.std.proofs.Common.{◌≡◌, ◌≢◌, ℕ, zero, suc, ◌<◌, List, [], ◌∷◌, ◌++◌, length, refl, arith, Option, Some, inl, inr}
use Rattle.std.specs.Prelude.{replicate, slice_get, slice_set}
use Rattle.std.proofs.lemmas.List.{set-get_or}
use Rattle.std.proofs.lemmas.Option.{get_or_from_slice_get}
use Rattle.rb_site.proofs.Public.Places as Sets

-- what is at one place is one thing
pub same_item : {X : Type 0} (o : Option X) (x y : X) → o ≡ Some x → o ≡ Some y → x ≡ y
same_item o x y h k = cc

-- an item put where it is changes nothing
pub set_same : {X : Type 0} (xs : List X) (i : ℕ) (x : X) → slice_get xs i ≡ Some x → slice_set xs i x ≡ xs
set_same xs i x h = cc (set-get_or xs i x, get_or_from_slice_get xs i x x h)

-- at a place within the list something is
pub item_at : {X : Type 0} (xs : List X) (i : ℕ) → i < length xs → (x : X) × (slice_get xs i ≡ Some x)
item_at [] i h = absurd (omega arith)
item_at (x ∷ xs) zero h = (x, refl)
item_at (x ∷ xs) (suc i) h = item_at xs i (omega arith)

-- all items of a list of one thing are that
pub get_replicate : {X : Type 0} (n i : ℕ) (x y : X) → slice_get (replicate n x) i ≡ Some y → y ≡ x
get_replicate zero i x y h = cc
get_replicate (suc n) zero x y h = cc
get_replicate (suc n) (suc i) x y h = get_replicate n i x y h

-- the item after others
pub get_after : {X : Type 0} (xs more : List X) (x : X) → slice_get (xs ++ x ∷ more) (length xs) ≡ Some x
get_after [] more x = refl
get_after (y ∷ xs) more x = get_after xs more x

-- what holds of the item that is put at a place, and of those at the others, holds of each
pub each_set : {X : Type 0} (xs : List X) (i : ℕ) (x y : X) (P : ℕ → X → Type 0) → slice_get xs i ≡ Some x → P i y
    → ((j : ℕ) (z : X) → j ≢ i → slice_get xs j ≡ Some z → P j z) → (j : ℕ) (z : X) → slice_get (slice_set xs i y) j ≡ Some z → P j z
each_set xs i x y P at here others j z there = elim (Sets.same_number i j) [
  | inl e ↦ (let same : z ≡ y = cc (Sets.get_set_same xs i x y at, e, there) in rw (e, same) here)
  | inr ne ↦ others j z ne (cc (Sets.get_set_other xs i j y ne, there))
]
