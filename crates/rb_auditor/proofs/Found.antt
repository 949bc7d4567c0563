-- Items that are found at each of some places.
use Rattle.std.proofs.Common.{◌≡◌, ℕ, List, [], ◌∷◌, ◌++◌, length, refl, ap, sym, ◌∙◌, Option, Some}
use Rattle.rb_site.proofs.Public.Lists.{map_at, map_back}
use Rattle.std.specs.List.{filter_map}
use Rattle.std.specs.Prelude.{map, slice_get}
use Rattle.std.proofs.lemmas.List.{length-map, map-append}
use Rattle.std.proofs.lemmas.List.Elements.{filter_map-append}
use Rattle.rb_auditor.specs.MessageLists.{AreThere}

-- what is found at these places is what is known to be at each of them
pub is : {A B : Type 0} (f : A → Option B) (ps : List A) (ys : List B) → map f ps ≡ map (λ y. Some y) ys → filter_map f ps ≡ ys
is f [] [] e = refl
is f [] (y ∷ ys) e = cc
is f (p ∷ ps) [] e = cc
is f (p ∷ ps) (y ∷ ys) e = cc (filter_map-append f (p ∷ []) ps, is f ps ys cc)

-- if it is known what is at each of these places, there is something
pub there : {A B : Type 0} (f : A → Option B) (ps : List A) (ys : List B) → map f ps ≡ map (λ y. Some y) ys → AreThere f ps
there f ps ys e = e ∙ ap (map (λ y. Some y)) (sym (is f ps ys e))

-- what is at each of these places is there still if more is found
pub still : {A B : Type 0} (f g : A → Option B) → ((p : A) (x : B) → f p ≡ Some x → g p ≡ Some x) → (ps : List A) (ys : List B)
    → map f ps ≡ map (λ y. Some y) ys → map g ps ≡ map (λ y. Some y) ys
still f g more [] ys e = e
still f g more (p ∷ ps) [] e = cc
still f g more (p ∷ ps) (y ∷ ys) e = cc (more p y cc, still f g more ps ys cc)

-- one place more
pub pushed : {A B : Type 0} (f : A → Option B) (ps : List A) (ys : List B) (p : A) (y : B) → map f ps ≡ map (λ y. Some y) ys
    → f p ≡ Some y → map f (ps ++ p ∷ []) ≡ map (λ y. Some y) (ys ++ y ∷ [])
pushed f ps ys p y e at = cc (map-append f ps (p ∷ []), map-append (λ y. Some y) ys (y ∷ []))

-- as much is found as there are places
pub many : {A B : Type 0} (f : A → Option B) (ps : List A) (ys : List B) → map f ps ≡ map (λ y. Some y) ys → length ps ≡ length ys
many f ps ys e = sym (length-map ps f) ∙ ap length e ∙ length-map ys (λ y. Some y)

-- what is found at a place
pub at_some : {A B : Type 0} (f : A → Option B) (ps : List A) (ys : List B) (k : ℕ) (p : A) → map f ps ≡ map (λ y. Some y) ys
    → slice_get ps k ≡ Some p → slice_get ys k ≡ f p
at_some f ps ys k p e at = let (y, there, is) = map_back (λ y. Some y) ys k (f p) (cc (e, map_at f ps k p at)) in cc
