-- The order of the names, and lists in that order.
use Rattle.std.proofs.Common.{◌≡◌, ℕ, suc, zero, ◌+◌, ◌<◌, ◌≤◌, Bool, true, false, cond, not, List, [], ◌∷◌, length, drop, refl, ap, sym}
use Rattle.std.proofs.Common.{◌∙◌, arith, ◌⊎◌, inl, inr, subst, get_or}
use Rattle.std.specs.Prelude.{nat_lt, Option, Some, None, filter, insert, remove}
use Rattle.std.specs.List.Sorted.{IsPartitionedBy, IsPartitionPoint}
use Rattle.std.proofs.lemmas.Bool.Decides.{nat_tests}
use Rattle.std.proofs.lemmas.List.{drop_all, drop_more}
use Rattle.rb_shadow.specs.Operations.{Among, find_in, number_of, row_of, same_name}
use Rattle.rb_shadow.specs.declared.op_name.OpName.{OpName}
use Rattle.rb_shadow.specs.declared.op_name.OpName.TheVariants.{Blue, Red}
use Rattle.rb_shadow.specs.declared.shadow.Shadow.{Shadow}
use Rattle.rb_shadow.proofs.Public.Members
use Rattle.rb_inbox.specs.Held.{Holding, IsInOrder, ComesBeforeAll, held_before, comes_before, with_held, without}

-- the order of the names is transitive
pub before-trans : (x y z : OpName) → comes_before x y ≡ true → comes_before y z ≡ true → comes_before x z ≡ true
before-trans (Blue i m) (Blue j n) (Blue k p) h l = grind (arith, nat_tests)
before-trans (Blue i m) (Blue j n) (Red p) h l = refl
before-trans (Blue i m) (Red n) (Blue k p) h l = cc
before-trans (Blue i m) (Red n) (Red p) h l = refl
before-trans (Red m) (Blue j n) z h l = cc
before-trans (Red m) (Red n) (Blue k p) h l = cc
before-trans (Red m) (Red n) (Red p) h l = grind (arith, nat_tests)

-- a name comes before no name that comes before it
pub before-one_way : (x y : OpName) → comes_before x y ≡ true → comes_before y x ≡ false
before-one_way (Blue i m) (Blue j n) h = grind (arith, nat_tests)
before-one_way (Blue i m) (Red n) h = refl
before-one_way (Red m) (Blue j n) h = cc
before-one_way (Red m) (Red n) h = grind (arith, nat_tests)

-- a name that comes before another is another
pub before-not_same : (x y : OpName) → comes_before x y ≡ true → same_name x y ≡ false
before-not_same (Blue i m) (Blue j n) h = grind (arith, nat_tests)
before-not_same (Blue i m) (Red n) h = refl
before-not_same (Red m) (Blue j n) h = refl
before-not_same (Red m) (Red n) h = grind (arith, nat_tests)

-- of two different names one comes before the other
pub before-other_way : (x y : OpName) → same_name x y ≡ false → comes_before x y ≡ false → comes_before y x ≡ true
before-other_way (Blue i m) (Blue j n) h k = grind (arith, nat_tests)
before-other_way (Blue i m) (Red n) h k = cc
before-other_way (Red m) (Blue j n) h k = refl
before-other_way (Red m) (Red n) h k = grind (arith, nat_tests)

-- ---- what comes before all of a list

-- what comes before the first of all comes before all
pub before_all-trans : (x y : OpName) (us : List Shadow) → comes_before x y ≡ true → ComesBeforeAll y us → ComesBeforeAll x us
before_all-trans x y [] h k = tt
before_all-trans x y (u ∷ us) h k = (before-trans x y u.name h k.0, before_all-trans x y us h k.1)

-- it is the name of none of them
pub before_all-find : (x : OpName) (us : List Shadow) → ComesBeforeAll x us → find_in us x ≡ None
before_all-find x [] h = refl
before_all-find x (u ∷ us) h = ap (λ b. cond b (Some u) (find_in us x)) (Members.same_name-comm u.name x ∙ before-not_same x u.name h.0)
    ∙ before_all-find x us h.1

-- nor is any of them left out without it
pub before_all-without : (x : OpName) (us : List Shadow) → ComesBeforeAll x us → without x us ≡ us
before_all-without x [] h = refl
before_all-without x (u ∷ us) h =
    ap (λ b. cond (not b) (u ∷ without x us) (without x us)) (Members.same_name-comm u.name x ∙ before-not_same x u.name h.0)
    ∙ ap (λ ws. u ∷ ws) (before_all-without x us h.1)

-- a name comes before all also with one more
pub before_all-with_held : (x : OpName) (v : Shadow) (us : List Shadow) → comes_before x v.name ≡ true → ComesBeforeAll x us →
    ComesBeforeAll x (with_held v us)
before_all-with_held x v [] h k = (h, tt)
before_all-with_held x v (u ∷ us) h k = at (comes_before v.name u.name) (before_all-with_held x v us h k.1)
  where
    at : (b : Bool) → ComesBeforeAll x (with_held v us) → ComesBeforeAll x (cond b (v ∷ u ∷ us) (u ∷ with_held v us))
    at true r = (h, k)
    at false r = (k.0, r)

-- a name comes before some of all
pub before_all-filter : (p : Shadow → Bool) (x : OpName) (us : List Shadow) → ComesBeforeAll x us → ComesBeforeAll x (filter p us)
before_all-filter p x [] h = tt
before_all-filter p x (u ∷ us) h = at (p u) (before_all-filter p x us h.1)
  where
    at : (b : Bool) → ComesBeforeAll x (filter p us) → ComesBeforeAll x (cond b (u ∷ filter p us) (filter p us))
    at true r = (h.0, r)
    at false r = r

-- ---- the order is kept

-- one more keeps the order
pub in_order-with_held : (v : Shadow) (us : List Shadow) → IsInOrder us → find_in us v.name ≡ None → IsInOrder (with_held v us)
in_order-with_held v [] h new = (tt, tt)
in_order-with_held v (u ∷ us) h new = at (comes_before v.name u.name) (same_name u.name v.name) refl refl new
    (λ k. in_order-with_held v us h.1 k)
  where
    at : (b s : Bool) → comes_before v.name u.name ≡ b → same_name u.name v.name ≡ s → cond s (Some u) (find_in us v.name) ≡ None
        → (find_in us v.name ≡ None → IsInOrder (with_held v us)) → IsInOrder (cond b (v ∷ u ∷ us) (u ∷ with_held v us))
    at b true e q new rest = absurd (cc)
    at true false e q new rest = ((e, before_all-trans v.name u.name us e h.0), h)
    at false false e q new rest = (
      before_all-with_held u.name v us (before-other_way v.name u.name (Members.same_name-comm v.name u.name
          ∙ q) e) h.0,
      rest new,
    )

-- some of them are in order
pub in_order-filter : (p : Shadow → Bool) (us : List Shadow) → IsInOrder us → IsInOrder (filter p us)
in_order-filter p [] h = tt
in_order-filter p (u ∷ us) h = at (p u) (in_order-filter p us h.1)
  where
    at : (b : Bool) → IsInOrder (filter p us) → IsInOrder (cond b (u ∷ filter p us) (filter p us))
    at true r = (before_all-filter p u.name us h.0, r)
    at false r = r

-- ---- the place of a name

-- it is in the list, or at its end
pub held_before-bound : (us : List Shadow) (x : OpName) → held_before us x ≤ length us
held_before-bound [] x = omega arith
held_before-bound (u ∷ us) x = at (comes_before u.name x) (held_before-bound us x)
  where
    at : (b : Bool) → held_before us x ≤ length us → cond b (suc (held_before us x)) 0 ≤ suc (length us)
    at true l = omega arith
    at false l = omega arith

-- past the end nothing is of the name
pub find-past : (us : List Shadow) (x : OpName) → IsInOrder us → length us ≤ held_before us x → find_in us x ≡ None
find-past [] x h l = refl
find-past (u ∷ us) x h l = at (comes_before u.name x) refl l (find-past us x h.1)
  where
    at : (b : Bool) → comes_before u.name x ≡ b → suc (length us) ≤ cond b (suc (held_before us x)) 0 →
        (length us ≤ held_before us x → find_in us x ≡ None)
        → cond (same_name u.name x) (Some u) (find_in us x) ≡ None
    at true e l rest = ap (λ s. cond s (Some u) (find_in us x)) (before-not_same u.name x e) ∙ rest (omega arith)
    at false e l rest = absurd (omega arith)

-- what is in the place is the operation of the name, if that is its name
pub find-index : (us : List Shadow) (x : OpName) (d : Shadow) → IsInOrder us → held_before us x < length us
    → find_in us x ≡ cond (same_name (get_or us (held_before us x) d).name x) (Some (get_or us (held_before us x) d)) None
find-index [] x d h l = absurd (omega arith)
find-index (u ∷ us) x d h l = at (comes_before u.name x) refl l (find-index us x d h.1)
  where
    at : (b : Bool) → comes_before u.name x ≡ b → cond b (suc (held_before us x)) 0 < suc (length us)
        → (held_before us x < length us → find_in us x ≡ cond (same_name (get_or us (held_before us x) d).name x)
        (Some (get_or us (held_before us x) d)) None)
        → cond (same_name u.name x) (Some u) (find_in us x)
        ≡ cond (same_name (get_or (u ∷ us) (cond b (suc (held_before us x)) 0) d).name x)
        (Some (get_or (u ∷ us) (cond b (suc (held_before us x)) 0) d)) None
    at true e l rest = ap (λ s. cond s (Some u) (find_in us x)) (before-not_same u.name x e) ∙ rest (omega arith)
    at false e l rest = here (same_name u.name x) refl
      where
        here : (s : Bool) → same_name u.name x ≡ s → cond s (Some u) (find_in us x) ≡ cond s (Some u) None
        here true q = refl
        here false q = before_all-find x us (before_all-trans x u.name us (before-other_way u.name x q e) h.0)

-- the same, if a read of the place gives an operation of the name, or of another
pub find-same : (us : List Shadow) (x : OpName) (u : Shadow) → IsInOrder us → held_before us x < length us →
    u ≡ get_or us (held_before us x) u → u.name ≡ x → Some u ≡ find_in us x
find-same us x u h l e q =
    sym (find-index us x u h l ∙ ap (λ (w : Shadow). cond (same_name w.name x) (Some w) None) (sym e)
    ∙ ap (λ b. cond b (Some u) None) (ap (same_name u.name) (sym q) ∙ Members.same_name-refl u.name))

-- if another name is at the place of a name it is held nowhere
pub find-other : (us : List Shadow) (x : OpName) (u : Shadow) → IsInOrder us → held_before us x < length us →
    u ≡ get_or us (held_before us x) u → (u.name ≡ x → ⊥) → None ≡ find_in us x
find-other us x u h l e q =
    sym (find-index us x u h l ∙ ap (λ (w : Shadow). cond (same_name w.name x) (Some w) None) (sym e)
    ∙ ap (λ b. cond b (Some u) None) (Members.not_same u.name x q))

-- the place of what is held is within the list
pub found_within : (us : List Shadow) (x : OpName) (u : Shadow) → IsInOrder us → find_in us x ≡ Some u → held_before us x < length us
found_within us x u h e = at (nat_lt (held_before us x) (length us)) refl
  where
    at : (b : Bool) → nat_lt (held_before us x) (length us) ≡ b → held_before us x < length us
    at true q = grind (arith, nat_tests)
    at false q = absurd (let none : find_in us x ≡ None = find-past us x h (grind (arith, nat_tests)) in cc)

-- one more, put in at its place
pub insert-index : (v : Shadow) (us : List Shadow) → IsInOrder us → find_in us v.name ≡ None →
    insert us (held_before us v.name) v ≡ with_held v us
insert-index v [] h new = refl
insert-index v (u ∷ us) h new = at (comes_before u.name v.name) (same_name u.name v.name) refl refl new (λ k. insert-index v us h.1 k)
  where
    at : (b s : Bool) → comes_before u.name v.name ≡ b → same_name u.name v.name ≡ s → cond s (Some u) (find_in us v.name) ≡ None
        → (find_in us v.name ≡ None → insert us (held_before us v.name) v ≡ with_held v us)
        → insert (u ∷ us) (cond b (suc (held_before us v.name)) 0) v ≡ cond (comes_before v.name u.name) (v ∷ u ∷ us) (u ∷ with_held v us)
    at b true e q new rest = absurd (cc)
    at true false e q new rest = ap (λ ws. u ∷ ws) (rest new) ∙ ap (λ c. cond c (v ∷ u ∷ us) (u
        ∷ with_held v us)) (sym (before-one_way u.name v.name e))
    at false false e q new rest = ap (λ c. cond c (v ∷ u ∷ us) (u ∷ with_held v us)) (sym (before-other_way u.name v.name q e))

-- what is held, taken out at its place
pub remove-index : (us : List Shadow) (x : OpName) (u : Shadow) → IsInOrder us → find_in us x ≡ Some u →
    remove us (held_before us x) ≡ without x us
remove-index [] x w h found = absurd (cc)
remove-index (u ∷ us) x w h found = at (comes_before u.name x) (same_name u.name x) refl refl found (λ k. remove-index us x w h.1 k)
  where
    at : (b s : Bool) → comes_before u.name x ≡ b → same_name u.name x ≡ s → cond s (Some u) (find_in us x) ≡ Some w
        → (find_in us x ≡ Some w → remove us (held_before us x) ≡ without x us)
        → remove (u ∷ us) (cond b (suc (held_before us x)) 0) ≡ cond (not s) (u ∷ without x us) (without x us)
    at true true e q found rest = absurd (Members.true≢false (sym q ∙ before-not_same u.name x e))
    at true false e q found rest = ap (λ ws. u ∷ ws) (rest found)
    at false true e q found rest = sym (before_all-without x us (subst (λ y. ComesBeforeAll y us) (Members.same_name-true u.name x q) h.0))
    at false false e q found rest = absurd (let none : find_in us x ≡ None = before_all-find x us
        (before_all-trans x u.name us (before-other_way u.name x q e) h.0) in cc)

-- ---- the place that a search finds

before_all-at : (x : OpName) (us : List Shadow) (k : ℕ) (d : Shadow) → ComesBeforeAll x us → k < length us →
    comes_before x (get_or us k d).name ≡ true
before_all-at x [] k d h l = absurd (omega arith)
before_all-at x (u ∷ us) zero d h l = h.0
before_all-at x (u ∷ us) (suc k) d h l = before_all-at x us k d h.1 (omega arith)

-- the list is parted by a name
pub parted : (us : List Shadow) (x : OpName) → IsInOrder us → IsPartitionedBy (λ (u : Shadow). comes_before u.name x) us
parted [] x h i j d up l e = absurd (omega arith)
parted (u ∷ us) x h zero zero d up l e = e
parted (u ∷ us) x h zero (suc j) d up l e = before-trans u.name (get_or us j d).name x (before_all-at u.name us j d h.0 (omega arith)) e
parted (u ∷ us) x h (suc i) zero d up l e = absurd (omega arith)
parted (u ∷ us) x h (suc i) (suc j) d up l e = parted us x h.1 i j d (omega arith) (omega arith) e

-- in one row the order of the names is that of their numbers
pub by_number : (x y : OpName) → row_of x ≡ row_of y → comes_before x y ≡ nat_lt (number_of x) (number_of y)
by_number (Blue i m) (Blue j n) e = grind (arith, nat_tests)
by_number (Blue i m) (Red n) e = absurd (omega arith)
by_number (Red m) (Blue j n) e = absurd (omega arith)
by_number (Red m) (Red n) e = refl

-- the operations are in the row of the name
abbrev pub AreInRow : List Shadow → OpName → Type 0
AreInRow us x = (u : Shadow) → Among u us → row_of u.name ≡ row_of x

-- what is read from the list is in the row, so its name comes before the other if its number does
pub read-number : (us : List Shadow) (x : OpName) (i : ℕ) (d : Shadow) → AreInRow us x → i < length us →
    comes_before (get_or us i d).name x ≡ nat_lt (number_of (get_or us i d).name) (number_of x)
read-number [] x i d row l = absurd (omega arith)
read-number (u ∷ us) x zero d row l = by_number u.name x (row u (inl refl))
read-number (u ∷ us) x (suc i) d row l = read-number us x i d (λ w a. row w (inr a)) (omega arith)

-- a row is parted by a number
pub parted-number : (us : List Shadow) (x : OpName) → IsInOrder us → AreInRow us x →
    IsPartitionedBy (λ (u : Shadow). nat_lt (number_of u.name) (number_of x)) us
parted-number us x h row i j d up l e =
    sym (read-number us x i d row (omega arith)) ∙ parted us x h i j d up l (read-number us x j d row l ∙ e)

-- if the first of a row has no smaller number, none is before the name
pub none-before : (us : List Shadow) (x : OpName) (n : ℕ) (d : Shadow) → AreInRow us x → 0 < length us →
    n ≡ number_of (get_or us 0 d).name → number_of x ≤ n → 0 ≡ held_before us x
none-before [] x n d row l e h = absurd (omega arith)
none-before (u ∷ us) x n d row l e h =
    ap (λ b. cond b (suc (held_before us x)) 0) (sym (by_number u.name x (row u (inl refl)) ∙ at))
  where
    at : nat_lt (number_of u.name) (number_of x) ≡ false
    at = grind (arith, nat_tests)

-- if the last of them is before the name, all are
pub all-before : (us : List Shadow) (x : OpName) (i : ℕ) (d : Shadow) → IsInOrder us → suc i ≡ length us →
    comes_before (get_or us i d).name x ≡ true → length us ≡ held_before us x
all-before [] x i d h l e = refl
all-before (u ∷ []) x i d h l e =
    ap (λ b. cond b 1 0) (sym (subst (λ k. comes_before (get_or (u ∷ []) k d).name x ≡ true) (let z : i ≡ 0 = omega arith in z) e))
all-before (u ∷ w ∷ us) x zero d h l e = absurd (omega arith)
all-before (u ∷ w ∷ us) x (suc i) d h l e =
    ap suc (all-before (w ∷ us) x i d h.1 (omega arith) e)
    ∙ ap (λ b. cond b (suc (held_before (w ∷ us) x)) 0)
    (sym (parted (u ∷ w ∷ us) x h 0 (suc i) d (omega arith) (omega arith) e))

-- the point where it is parted is the place of the name
pub point-index : (us : List Shadow) (x : OpName) (i : ℕ) → i ≤ length us
    → IsPartitionPoint (λ (u : Shadow). comes_before u.name x ≡ true) (λ (u : Shadow). comes_before u.name x ≡ false) us i →
    i ≡ held_before us x
point-index [] x zero l h = refl
point-index [] x (suc i) l h = absurd (omega arith)
point-index (u ∷ us) x zero l h = ap (λ b. cond b (suc (held_before us x)) 0) (sym (h.1 0 u (omega arith) (omega arith)))
point-index (u ∷ us) x (suc i) l h =
    ap suc (point-index us x i (omega arith) (
      λ k d low high. h.0 (suc k) d (omega arith) (omega arith),
      λ k d low high. h.1 (suc k) d (omega arith) (omega arith),
    ))
    ∙ ap (λ b. cond b (suc (held_before us x)) 0) (sym (h.0 0 u (omega arith) (omega arith)))

-- the point where a row is parted by a number is the place of its name
pub point-number : (us : List Shadow) (x : OpName) (i : ℕ) → AreInRow us x → i ≤ length us
    → IsPartitionPoint (λ (u : Shadow). nat_lt (number_of u.name) (number_of x) ≡ true)
    (λ (u : Shadow). nat_lt (number_of u.name) (number_of x) ≡ false) us i → i ≡ held_before us x
point-number us x i row l h = point-index us x i l (
  λ k d low high. read-number us x k d row (omega arith) ∙ h.0 k d low high,
  λ k d low high. read-number us x k d row (omega arith) ∙ h.1 k d low high,
)

-- ---- what is held, by its name

before_all-among : (x : OpName) (us : List Shadow) (u : Shadow) → ComesBeforeAll x us → Among u us → comes_before x u.name ≡ true
before_all-among x [] u h a = elim a [ ]
before_all-among x (v ∷ us) u h (inl e) = ap (λ (w : Shadow). comes_before x w.name) e ∙ h.0
before_all-among x (v ∷ us) u h (inr a) = before_all-among x us u h.1 a

-- each operation is found by its name
pub Among-find : (us : List Shadow) (u : Shadow) → IsInOrder us → Among u us → find_in us u.name ≡ Some u
Among-find [] u h a = elim a [ ]
Among-find (w ∷ us) u h (inl e) =
    ap (λ (v : Shadow). cond (same_name w.name v.name) (Some w) (find_in us v.name)) e
    ∙ ap (λ b. cond b (Some w) (find_in us w.name)) (Members.same_name-refl w.name) ∙ ap Some (sym e)
Among-find (w ∷ us) u h (inr a) =
    ap (λ b. cond b (Some w) (find_in us u.name)) (before-not_same w.name u.name (before_all-among w.name us u h.0 a))
    ∙ Among-find us u h.1 a

-- what is left from a place on is what is there, or has a later name
pub left_cases : (us : List Shadow) (k : ℕ) (d u : Shadow) → IsInOrder us → k < length us → Among u (drop k us) →
    (u ≡ get_or us k d) ⊎ (comes_before (get_or us k d).name u.name ≡ true)
left_cases [] k d u h l a = absurd (omega arith)
left_cases (w ∷ us) zero d u h l (inl e) = inl e
left_cases (w ∷ us) zero d u h l (inr a) = inr (before_all-among w.name us u h.0 a)
left_cases (w ∷ us) (suc k) d u h l a = left_cases us k d u h.1 (omega arith) a

-- what is left after a place has a later name
pub later_there : (us : List Shadow) (k : ℕ) (d u : Shadow) → IsInOrder us → k < length us → Among u (drop (suc k) us) →
    comes_before (get_or us k d).name u.name ≡ true
later_there [] k d u h l a = absurd (omega arith)
later_there (w ∷ us) zero d u h l a = before_all-among w.name us u h.0 a
later_there (w ∷ us) (suc k) d u h l a = later_there us k d u h.1 (omega arith) a

-- what is among the rest, and isn't the first of it, is among what is left after that
pub Among-more : (us : List Shadow) (i : ℕ) (d u : Shadow) → i < length us → Among u (drop i us) → (u ≡ get_or us i d → ⊥) →
    Among u (drop (i + 1) us)
Among-more us i d u l a other = at (subst (λ (ws : List Shadow). Among u ws) (drop_more us i d l) a)
  where
    at : Among u (get_or us i d ∷ drop (i + 1) us) → Among u (drop (i + 1) us)
    at (inl q) = absurd (other q)
    at (inr k) = k

-- nothing is left at the end
pub Among-end : (us : List Shadow) (i : ℕ) (u : Shadow) → length us ≤ i → Among u (drop i us) → ⊥
Among-end us i u l a = at (subst (λ (ws : List Shadow). Among u ws) (drop_all i us l) a)
  where
    at : Among u [] → ⊥
    at k = elim k [ ]

-- ---- the inbox's value

-- with its limit
abbrev pub holding : ℕ → List Shadow → Holding
holding n us = record { limit = n; held = us }

-- the value after a change of the list
pub changed : (n : ℕ) (us vs : List Shadow) (b : Holding) (f : List Shadow → List Shadow) → us ≡ f vs → holding n vs ≡ b →
    holding n us ≡ holding b.limit (f b.held)
changed n us vs b f e h = ap (holding n) e ∙ ap (λ (b : Holding). holding b.limit (f b.held)) h

-- what is found in the value is found in the list
pub found_inside : (n : ℕ) (us : List Shadow) (b : Holding) (x : OpName) (o : Option Shadow) → holding n us ≡ b → o ≡ find_in b.held x →
    find_in us x ≡ o
found_inside n us b x o h e = ap (λ (b : Holding). find_in b.held x) h ∙ sym e

-- the value if the list is the same
pub unchanged : (n : ℕ) (us vs : List Shadow) (b : Holding) → us ≡ vs → holding n vs ≡ b → holding n us ≡ b
unchanged n us vs b e h = ap (holding n) e ∙ h
