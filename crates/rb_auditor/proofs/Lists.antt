-- Histories and how many entries of each were taken, place by place.
use Rattle.std.proofs.Common.{◌≡◌, ℕ, zero, suc, ◌+◌, ◌<◌, ◌≤◌, List, [], ◌∷◌, ◌++◌, length, take, drop, refl, ap, arith, add-one}
use Rattle.std.proofs.Common.{Option, Some, ◌⊎◌, inl, inr, add-zero, ◌≢◌}
use Rattle.std.specs.Prelude.{map, replicate, slice_get, slice_set}
use Rattle.std.specs.List.{range_with_len}
use Rattle.std.proofs.lemmas.List.{length-take-le}
use Rattle.std.proofs.lemmas.List.FromFn.{get_or-map-range_with_len, length-map-range_with_len}
use Rattle.std.proofs.lemmas.Option.{get_or_from_slice_get, slice_get_within}
use Rattle.rb_money.specs.Settings.{Settings}
use Rattle.rb_site.specs.declared.entry.Entry.{Entry}
use Rattle.rb_site.proofs.Public.Places
use Rattle.rb_site.specs.Events.{ModelSite, first_site}
use Rattle.rb_auditor.specs.Progress.{fronts_of, left_of, site_after, sites_after}

-- ---- one place of a list

-- a list around the item at a place
pub record IsSplit {A : Type 0} (xs : List A) (k : ℕ) (x : A) : Type 0 where
  pub rest : List A
  pub whole : xs ≡ take k xs ++ x ∷ rest
  pub more : take (k + 1) xs ≡ take k xs ++ x ∷ []
  pub dropped : drop k xs ≡ x ∷ rest
  pub within : k < length xs
  pub front : length (take k xs) ≡ k

-- a list is split around the item that is found at a place
pub split_at : {A : Type 0} (xs : List A) (k : ℕ) (x : A) → slice_get xs k ≡ Some x → IsSplit xs k x
split_at [] k x h = cc
split_at (y ∷ ys) zero x h = record { rest = ys; whole = cc; more = cc; dropped = cc; within = omega arith; front = refl }
split_at (y ∷ ys) (suc k) x h =
    let i = split_at ys k x h in
    let more : take (suc k + 1) (y ∷ ys) ≡ (y ∷ take k ys) ++ x ∷ [] = rw (add-one (suc k)) (cc (add-one k)) in
    record { rest = i.rest; whole = cc; more = more; dropped = i.dropped; within = omega arith; front = cc }

-- what is found in a list of zeros is 0
pub get_zero : (n i k : ℕ) → slice_get (replicate n 0) i ≡ Some k → k ≡ 0
get_zero zero i k h = cc
get_zero (suc n) zero k h = cc
get_zero (suc n) (suc i) k h = get_zero n i k h

-- what is found at a place of what is made of each number below n is made of that place's
pub at_number : {A : Type 0} (f : ℕ → A) (n i : ℕ) (x : A) → slice_get (map f (range_with_len 0 n)) i ≡ Some x
    → (i < n) × (x ≡ f i)
at_number f n i x at =
    let less : i < n = omega (arith, slice_get_within _ i x at, length-map-range_with_len f 0 n) in
    (less, cc (get_or_from_slice_get _ i x x at, get_or-map-range_with_len f 0 n i i x less (omega arith)))

-- what two looks at one place give is one thing
pub same_item : {A : Type 0} (o : Option A) (x y : A) → o ≡ Some x → o ≡ Some y → x ≡ y
same_item o x y p q = cc

-- there is an item at each place
pub item_at : {A : Type 0} (xs : List A) (k : ℕ) → k < length xs → (x : A) × (slice_get xs k ≡ Some x)
item_at [] k less = absurd (omega arith)
item_at (x ∷ xs) zero less = (x, refl)
item_at (x ∷ xs) (suc k) less = item_at xs k (omega arith)

-- the item after a prefix
pub get_after : {A : Type 0} (xs ys : List A) (x : A) → slice_get (xs ++ x ∷ ys) (length xs) ≡ Some x
get_after [] ys x = refl
get_after (z ∷ xs) ys x = get_after xs ys x

-- an item of a list with one more is one of those before, or the one more
pub before_or_last : {A : Type 0} (xs : List A) (x y : A) (k : ℕ) → slice_get (xs ++ x ∷ []) k ≡ Some y
    → (slice_get xs k ≡ Some y) ⊎ ((k ≡ length xs) × (y ≡ x))
before_or_last [] x y zero h = inr (refl, cc)
before_or_last [] x y (suc k) h = cc
before_or_last (z ∷ xs) x y zero h = inl h
before_or_last (z ∷ xs) x y (suc k) h = elim (before_or_last xs x y k h) [ inl g ↦ inl g | inr (e, same) ↦ inr (ap suc e, same) ]

-- a shorter prefix isn't the whole list
pub not_whole : {A : Type 0} (k : ℕ) (xs : List A) → k < length xs → take k xs ≡ xs → ⊥
not_whole k xs less e = omega (arith, length-take-le k xs (omega arith), ap length e)

-- what holds of the item that is put at a place, and of those at the others, holds of each
pub each_set : {A : Type 0} (xs : List A) (i : ℕ) (x y : A) (P : ℕ → A → Type 0) → slice_get xs i ≡ Some x → P i y
    → ((j : ℕ) (z : A) → j ≢ i → slice_get xs j ≡ Some z → P j z) → (j : ℕ) (z : A) → slice_get (slice_set xs i y) j ≡ Some z → P j z
each_set xs i x y P at here others j z there = elim (Places.same_number i j) [
  | inl e ↦ (let same : z ≡ y = cc (Places.get_set_same xs i x y at, e, there) in rw (e, same) here)
  | inr ne ↦ others j z ne (cc (Places.get_set_other xs i j y ne, there))
]

-- ---- sites

-- the site at a place is the one after what was taken of the history there
pub get_site : (s : Settings) (a : ℕ) (hs : List (List Entry)) (ks : List ℕ) (i k : ℕ) (h : List Entry) → slice_get hs i ≡ Some h
    → slice_get ks i ≡ Some k → slice_get (sites_after s a hs ks) i ≡ Some (site_after s (a + i) (take k h))
get_site s a [] ks i k h p q = cc
get_site s a (g ∷ hs) [] i k h p q = cc
get_site s a (g ∷ hs) (n ∷ ks) zero k h p q = cc (add-zero a)
get_site s a (g ∷ hs) (n ∷ ks) (suc i) k h p q =
    let z : a + suc i ≡ a + 1 + i = omega arith in rw z (get_site s (a + 1) hs ks i k h p q)

-- what is made of the entries that were taken of the history at a place
pub record IsMadeOf {B : Type 0} (hs : List (List Entry)) (ks : List ℕ) (i : ℕ) (make : List Entry → B) (b : B)
    : Type 0 where
  pub history : List Entry
  pub taken : ℕ
  pub there : slice_get hs i ≡ Some history
  pub at : slice_get ks i ≡ Some taken
  pub is : b ≡ make (take taken history)

-- a site that is found at a place comes from the history and the number of entries that are there
pub from_site : (s : Settings) (a : ℕ) (hs : List (List Entry)) (ks : List ℕ) (i : ℕ) (t : ModelSite)
    → slice_get (sites_after s a hs ks) i ≡ Some t → IsMadeOf hs ks i (site_after s (a + i)) t
from_site s a [] ks i t p = cc
from_site s a (g ∷ hs) [] i t p = cc
from_site s a (g ∷ hs) (n ∷ ks) zero t p = record { history = g; taken = n; there = refl; at = refl; is = cc (add-zero a) }
from_site s a (g ∷ hs) (n ∷ ks) (suc i) t p =
    let r = from_site s (a + 1) hs ks i t p in
    let z : a + suc i ≡ a + 1 + i = omega arith in
    record { history = r.history; taken = r.taken; there = r.there; at = r.at; is = rw z r.is }

-- to set how many entries are taken of one history is to set its site to the one after these
pub set_site : (s : Settings) (a : ℕ) (hs : List (List Entry)) (ks : List ℕ) (i n : ℕ) (h : List Entry) → slice_get hs i ≡ Some h
    → sites_after s a hs (slice_set ks i n) ≡ slice_set (sites_after s a hs ks) i (site_after s (a + i) (take n h))
set_site s a [] ks i n h p = cc
set_site s a (g ∷ hs) [] i n h p = refl
set_site s a (g ∷ hs) (k ∷ ks) zero n h p = cc (add-zero a)
set_site s a (g ∷ hs) (k ∷ ks) (suc i) n h p =
    let z : a + suc i ≡ a + 1 + i = omega arith in cc (z, set_site s (a + 1) hs ks i n h p)

-- with no entry taken, the sites are those from a on, each at its beginning
pub first_sites : (s : Settings) (a : ℕ) (hs : List (List Entry))
    → sites_after s a hs (replicate (length hs) 0) ≡ map first_site (range_with_len a (length hs))
first_sites s a [] = refl
first_sites s a (h ∷ hs) = ap (λ ts. first_site a ∷ ts) (first_sites s (a + 1) hs)

-- ---- prefixes

-- the prefix at a place is what was taken of the history there
pub get_front : (hs : List (List Entry)) (ks : List ℕ) (i k : ℕ) (h : List Entry) → slice_get hs i ≡ Some h → slice_get ks i ≡ Some k
    → slice_get (fronts_of hs ks) i ≡ Some (take k h)
get_front [] ks i k h p q = cc
get_front (g ∷ hs) [] i k h p q = cc
get_front (g ∷ hs) (n ∷ ks) zero k h p q = cc
get_front (g ∷ hs) (n ∷ ks) (suc i) k h p q = get_front hs ks i k h p q

-- a prefix that is found at a place comes from the history and the number of entries that are there
pub from_front : (hs : List (List Entry)) (ks : List ℕ) (i : ℕ) (f : List Entry)
    → slice_get (fronts_of hs ks) i ≡ Some f → IsMadeOf hs ks i (λ f. f) f
from_front [] ks i f p = cc
from_front (g ∷ hs) [] i f p = cc
from_front (g ∷ hs) (n ∷ ks) zero f p = record { history = g; taken = n; there = refl; at = refl; is = cc }
from_front (g ∷ hs) (n ∷ ks) (suc i) f p =
    let r : IsMadeOf hs ks i (λ f. f) f = from_front hs ks i f p in
    record { history = r.history; taken = r.taken; there = r.there; at = r.at; is = r.is }

-- prefixes that are whole
pub whole_fronts : (hs : List (List Entry)) (ks : List ℕ) → length ks ≡ length hs
    → ((i k : ℕ) (h : List Entry) → slice_get hs i ≡ Some h → slice_get ks i ≡ Some k → take k h ≡ h) → fronts_of hs ks ≡ hs
whole_fronts [] ks n all = refl
whole_fronts (h ∷ hs) [] n all = absurd (omega arith)
whole_fronts (h ∷ hs) (k ∷ ks) n all = cc (all 0 k h refl refl, whole_fronts hs ks (omega arith) (λ i. all (suc i)))

-- the numbers after the prefixes
pub next_numbers : (hs : List (List Entry)) (ks : List ℕ) → length ks ≡ length hs
    → ((i k : ℕ) (h : List Entry) → slice_get hs i ≡ Some h → slice_get ks i ≡ Some k → k ≤ length h)
    → map (λ (k : ℕ). k + 1) ks ≡ map (λ (f : List Entry). length f + 1) (fronts_of hs ks)
next_numbers [] [] n all = refl
next_numbers [] (k ∷ ks) n all = absurd (omega arith)
next_numbers (h ∷ hs) [] n all = absurd (omega arith)
next_numbers (h ∷ hs) (k ∷ ks) n all =
    cc (length-take-le k h (all 0 k h refl refl), next_numbers hs ks (omega arith) (λ i. all (suc i)))

-- one entry fewer is left
pub left_less : (hs : List (List Entry)) (ks : List ℕ) (i k : ℕ) (h : List Entry) → slice_get hs i ≡ Some h → slice_get ks i ≡ Some k
    → k < length h → left_of hs (slice_set ks i (k + 1)) < left_of hs ks
left_less [] ks i k h p q less = cc
left_less (g ∷ hs) [] i k h p q less = cc
left_less (g ∷ hs) (n ∷ ks) zero k h p q less =
    let e : n ≡ k = cc in let f : length g ≡ length h = cc in omega arith
left_less (g ∷ hs) (n ∷ ks) (suc i) k h p q less =
    let r : left_of hs (slice_set ks i (k + 1)) < left_of hs ks = left_less hs ks i k h p q less in omega arith
