-- Elements of a list after a function of each, and of a prefix.
use Rattle.std.proofs.Common.{◌≡◌, ℕ, zero, suc, List, [], ◌∷◌, ◌++◌, map, refl, Some}
use Rattle.std.specs.Prelude.{slice_get}

-- what is at a place after a function of each, by what was there before
pub map_at : {A B : Type 0} (f : A → B) (xs : List A) (k : ℕ) (x : A) → slice_get xs k ≡ Some x → slice_get (map f xs) k ≡ Some (f x)
map_at f [] k x at = cc
map_at f (y ∷ xs) zero x at = cc
map_at f (y ∷ xs) (suc k) x at = map_at f xs k x at

-- what is at a place after a function of each comes from what was there before
pub map_back : {A B : Type 0} (f : A → B) (xs : List A) (k : ℕ) (y : B) → slice_get (map f xs) k ≡ Some y →
    (x : A) × (slice_get xs k ≡ Some x) × (y ≡ f x)
map_back f [] k y at = cc
map_back f (x ∷ xs) zero y at = (x, refl, (cc))
map_back f (x ∷ xs) (suc k) y at = map_back f xs k y at

-- what is at a place of a list is there too with more after it
pub get_front : {X : Type 0} (xs ys : List X) (k : ℕ) (x : X) → slice_get xs k ≡ Some x → slice_get (xs ++ ys) k ≡ Some x
get_front [] ys k x at = cc
get_front (z ∷ xs) ys zero x at = at
get_front (z ∷ xs) ys (suc k) x at = get_front xs ys k x at
