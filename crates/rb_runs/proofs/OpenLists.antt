-- The lists of an `open` line are what the sites lack.
use Rattle.rb_runs.proofs.Words.{◌≡◌, ◌<◌, ◌≤◌, ℕ, zero, suc, ◌+◌, Bool, true, false, cond, List, [], ◌∷◌, ◌++◌, length, Some, refl, sym}
use Rattle.rb_runs.proofs.Words.{ap, ◌∙◌, subst, arith, inl, inr, map, ◌⊎◌, ◌&&◌, not, nat_le, filter, slice_get, list_any, range_with_len}
use Rattle.rb_runs.proofs.Words.{and_from, and_parts, not-true, not_from_false, nat_tests, get_or-map-range_with_len}
use Rattle.rb_runs.proofs.Words.{length-map-range_with_len, slice_get-get_or, IsConfigured, Settings, MOST_SITES, OpName, Blue, Red}
use Rattle.rb_runs.proofs.Words.{Shadow, blue_count, names, red_count, IsValid, none_past, valid_counted, get_front, Entry, AreOneWorlds}
use Rattle.rb_runs.proofs.Words.{made_in, world_of_run, MayBeClosed, applied_from, lacked, lacks}
use Rattle.rb_runs.proofs.Words.{next_names, HasUpTo, OpenListsAreLacking}
use Rattle.std.proofs.lemmas.Map.Keys.{any_passes_from_place}
use Rattle.rb_shadow.specs.declared.deps.Deps.{Deps}
use Rattle.rb_shadow.specs.Operations.{clock_of}
use Rattle.rb_shadow.proofs.Public.Clocks.{in_range, in_range-false, in_range-true}
use Rattle.rb_runs.proofs.AtRest.{AllLaws, others_of, same_names, was_made}
use Rattle.rb_runs.proofs.OneWorlds.{IsSiteWith, list_of, run_of, site_with}
use Rattle.rb_shadow.proofs.Public.Members

-- ---- lists

-- what a filter leaves passes
passes : {A : Type 0} (p : A → Bool) (xs : List A) (k : ℕ) (x : A) → slice_get (filter p xs) k ≡ Some x → p x ≡ true
passes p [] k x h = cc
passes {A} p (y ∷ xs) k x h = by (p y) refl k h (λ j q. passes p xs j x q)
  where
    by : (b : Bool) → p y ≡ b → (k : ℕ) → slice_get (cond b (y ∷ filter p xs) (filter p xs)) k ≡ Some x →
        ((j : ℕ) → slice_get (filter p xs) j ≡ Some x → p x ≡ true) → p x ≡ true
    by true e zero q rest = let is : y ≡ x = cc in ap p (sym is) ∙ e
    by true e (suc k) q rest = rest k q
    by false e k q rest = rest k q

-- what passes is left
left : {A : Type 0} (p : A → Bool) (xs : List A) (k : ℕ) (x : A) → slice_get xs k ≡ Some x → p x ≡ true →
    (j : ℕ) × (slice_get (filter p xs) j ≡ Some x)
left p [] k x h e = cc
left {A} p (y ∷ xs) zero x h e =
    let is : y ≡ x = cc in
    (0, ap (λ b. slice_get (cond b (y ∷ filter p xs) (filter p xs)) 0) (ap p is ∙ e) ∙ ap Some is)
left {A} p (y ∷ xs) (suc k) x h e = by (p y) (left p xs k x h e)
  where
    by : (b : Bool) → (j : ℕ) × (slice_get (filter p xs) j ≡ Some x) →
        (j : ℕ) × (slice_get (cond b (y ∷ filter p xs) (filter p xs)) j ≡ Some x)
    by true (j, q) = (suc j, q)
    by false (j, q) = (j, q)

-- if nothing passes nothing is left
none_left : {A : Type 0} (p : A → Bool) (xs : List A) → ((x : A) → p x ≡ false) → filter p xs ≡ []
none_left p [] h = refl
none_left p (x ∷ xs) h = ap (λ b. cond b (x ∷ filter p xs) (filter p xs)) (h x) ∙ none_left p xs h

-- if any passes, here is one
any_there : {A : Type 0} (p : A → Bool) (xs : List A) → list_any p xs ≡ true → (i : ℕ) × (x : A) × (slice_get xs i ≡ Some x) × (p x ≡ true)
any_there p [] h = cc
any_there {A} p (y ∷ xs) h = elim (Members.or-true (p y) (list_any p xs) h) [
  | inl e ↦ (0, y, refl, e)
  | inr e ↦ (let (i, x, at, q) = any_there p xs e in (suc i, x, at, q))
]

get_end : {A : Type 0} (xs : List A) (y : A) → slice_get (xs ++ y ∷ []) (length xs) ≡ Some y
get_end [] y = refl
get_end (x ∷ xs) y = get_end xs y

get_range : {A : Type 0} (f : ℕ → A) (a n i : ℕ) → i < n → slice_get (map f (range_with_len a n)) i ≡ Some (f (a + i))
get_range f a n i h =
    slice_get-get_or (map f (range_with_len a n)) i (f 0) (omega (arith, h, length-map-range_with_len f a n))
    ∙ ap Some (get_or-map-range_with_len f a n i (a + i) (f 0) h refl)

-- lists of the same numbers are equal
pub map_same : (f g : ℕ → ℕ) (xs : List ℕ) → ((k : ℕ) → f k ≡ g k) → map f xs ≡ map g xs
map_same f g [] h = refl
map_same f g (x ∷ xs) h = rw (h x, map_same f g xs h) refl

-- ---- the next names

next_blue : (sites : ℕ) (us : List Shadow) (i : ℕ) → i < sites → slice_get (next_names sites us) i ≡ Some (Blue i (blue_count us i + 1))
next_blue sites us i h =
    get_front (map (λ i. Blue i (blue_count us i + 1)) (range_with_len 0 sites)) (Red (red_count us + 1) ∷ []) i _
    (get_range (λ i. Blue i (blue_count us i + 1)) 0 sites i h
    ∙ ap (λ k. Some (Blue k (blue_count us k + 1))) (let q : 0 + i ≡ i = omega arith in q))

next_red : (sites : ℕ) (us : List Shadow) → slice_get (next_names sites us) sites ≡ Some (Red (red_count us + 1))
next_red sites us =
    let xs : List OpName = map (λ i. Blue i (blue_count us i + 1)) (range_with_len 0 sites) in
    ap (slice_get (xs ++ Red (red_count us + 1) ∷ [])) (sym (length-map-range_with_len (λ i. Blue i (blue_count us i + 1)) 0 sites))
    ∙ get_end xs (Red (red_count us + 1))

-- a number past a count isn't counted
past_count : (c : ℕ) → (nat_le 1 (c + 1) && nat_le (c + 1) c) ≡ false
past_count c = grind (arith, nat_tests)

-- a site lacks what another has applied and it hasn't
is_lacking : (uss : List (List Shadow)) (us vs : List Shadow) (j : ℕ) (x : OpName) → slice_get uss j ≡ Some vs → names vs x ≡ true →
    names us x ≡ false → lacks uss us x ≡ true
is_lacking uss us vs j x there has none =
    and_from _ _ (any_passes_from_place (λ ws. names ws x) uss j vs there has) (not_from_false (names us x) none)

-- of valid lists: what one has and the other hasn't has a name of its row, not above it, among those that are lacked
has_up_to : (s : Settings) (uss : List (List Shadow)) (us vs : List Shadow) (j : ℕ) (y : OpName) → IsValid s us → IsValid s vs →
    slice_get uss j ≡ Some vs → names vs y ≡ true → names us y ≡ false → HasUpTo (lacked s.sites uss us) y
has_up_to s uss us vs j (Blue i n) valid valid' there has none =
    let within : (1 ≤ n) × (n ≤ blue_count vs i) = in_range-true n (blue_count vs i) (sym (valid_counted s vs valid' (Blue i n)) ∙ has) in
    let above : blue_count us i < n = in_range-false n (blue_count us i) (sym (valid_counted s us valid (Blue i n)) ∙ none) within.0 in
    let x : OpName = Blue i (blue_count us i + 1) in
    let has' : names vs x ≡ true =
    valid_counted s vs valid' x ∙ in_range (blue_count us i + 1) (blue_count vs i) (omega arith) (omega arith) in
    let none' : names us x ≡ false = valid_counted s us valid x ∙ past_count (blue_count us i) in
    let here : i < s.sites = near (Members.bool_cases (nat_le s.sites i)) within in
    let (k, at) = left (lacks uss us) (next_names s.sites us) i x (next_blue s.sites us i here)
    (is_lacking uss us vs j x there has' none') in
    (k, x, at, refl, (omega arith))
  where
    near : (nat_le s.sites i ≡ true) ⊎ (nat_le s.sites i ≡ false) → (1 ≤ n) × (n ≤ blue_count vs i) → i < s.sites
    near (inl e) w =
        let far : s.sites ≤ i = grind (arith, nat_tests) in
        let zero : blue_count vs i ≡ 0 = none_past s vs i valid' far in
        let low : 1 ≤ n = w.0 in
        let high : n ≤ blue_count vs i = w.1 in
        absurd (let no : ⊥ = omega arith in no)
    near (inr e) w = grind (arith, nat_tests)
has_up_to s uss us vs j (Red n) valid valid' there has none =
    let within : (1 ≤ n) × (n ≤ red_count vs) = in_range-true n (red_count vs) (sym (valid_counted s vs valid' (Red n)) ∙ has) in
    let above : red_count us < n = in_range-false n (red_count us) (sym (valid_counted s us valid (Red n)) ∙ none) within.0 in
    let x : OpName = Red (red_count us + 1) in
    let has' : names vs x ≡ true = valid_counted s vs valid' x ∙ in_range (red_count us + 1) (red_count vs) (omega arith) (omega arith) in
    let none' : names us x ≡ false = valid_counted s us valid x ∙ past_count (red_count us) in
    let (k, at) = left (lacks uss us) (next_names s.sites us) s.sites x (next_red s.sites us) (is_lacking uss us vs j x there has' none') in
    (k, x, at, refl, (omega arith))

-- ---- lists without a name

-- a site that lacks nothing has all that another has
no_other : (s : Settings) (uss : List (List Shadow)) (us vs : List Shadow) (j : ℕ) (y : OpName) → IsValid s us → IsValid s vs →
    slice_get uss j ≡ Some vs → lacked s.sites uss us ≡ [] → names vs y ≡ true → names us y ≡ false → ⊥
no_other s uss us vs j y valid valid' there none has missing =
    let (k, x, at, _, _) = subst (λ xs. HasUpTo xs y) none (has_up_to s uss us vs j y valid valid' there has missing) in cc

-- a count is at most another if the number after that isn't counted
at_most : (m n : ℕ) → ((nat_le 1 (n + 1) && nat_le (n + 1) m) ≡ true → ⊥) → m ≤ n
at_most m n above = by (Members.bool_cases (nat_le m n))
  where
    by : (nat_le m n ≡ true) ⊎ (nat_le m n ≡ false) → m ≤ n
    by (inl e) = grind (arith, nat_tests)
    by (inr e) =
        let more : n < m = grind (arith, nat_tests) in
        absurd (above (in_range (n + 1) m (omega arith) (omega arith)))

-- so it has as many operations of each row
blue_most : (s : Settings) (uss : List (List Shadow)) (us vs : List Shadow) (j k : ℕ) → IsValid s us → IsValid s vs →
    slice_get uss j ≡ Some vs → lacked s.sites uss us ≡ [] → blue_count vs k ≤ blue_count us k
blue_most s uss us vs j k valid valid' there none = at_most (blue_count vs k) (blue_count us k) (λ counted.
    let y : OpName = Blue k (blue_count us k + 1) in
    no_other s uss us vs j y valid valid' there none (valid_counted s vs valid' y ∙ counted)
    (valid_counted s us valid y ∙ past_count (blue_count us k)))

red_most : (s : Settings) (uss : List (List Shadow)) (us vs : List Shadow) (j : ℕ) → IsValid s us → IsValid s vs →
    slice_get uss j ≡ Some vs → lacked s.sites uss us ≡ [] → red_count vs ≤ red_count us
red_most s uss us vs j valid valid' there none = at_most (red_count vs) (red_count us) (λ counted.
    let y : OpName = Red (red_count us + 1) in
    no_other s uss us vs j y valid valid' there none (valid_counted s vs valid' y ∙ counted)
    (valid_counted s us valid y ∙ past_count (red_count us)))

deps_same : (a b : List ℕ) (m n : ℕ) → a ≡ b → m ≡ n → ◌≡◌ {A = Deps} (record { blue = a; red = m }) (record { blue = b; red = n })
deps_same a b m n h k = cc

-- counts that are at most each other make equal clocks
same_clock : (us vs : List Shadow) → ((k : ℕ) → (blue_count us k ≤ blue_count vs k) × (blue_count vs k ≤ blue_count us k))
    → red_count us ≤ red_count vs → red_count vs ≤ red_count us → clock_of us ≡ clock_of vs
unfolding clock_of
same_clock us vs blue low high = deps_same (map (blue_count us) (range_with_len 0 MOST_SITES))
    (map (blue_count vs) (range_with_len 0 MOST_SITES)) (red_count us) (red_count vs)
    (map_same (blue_count us) (blue_count vs) (range_with_len 0 MOST_SITES) (λ k. let p = blue k in omega arith)) (omega arith)

-- each list is empty, or one isn't
none_or_some : (f : List Shadow → List OpName) (uss : List (List Shadow)) →
    ((i : ℕ) (us : List Shadow) → slice_get uss i ≡ Some us → f us ≡ []) ⊎
    ((i : ℕ) × (us : List Shadow) × (x : OpName) × (slice_get uss i ≡ Some us) × (slice_get (f us) 0 ≡ Some x))
none_or_some f [] = inl (λ i us at. cc)
none_or_some f (vs ∷ uss) = by (f vs) refl (none_or_some f uss)
  where
    both_none : f vs ≡ [] → ((i : ℕ) (us : List Shadow) → slice_get uss i ≡ Some us → f us ≡ []) → (i : ℕ) (us : List Shadow) →
        slice_get (vs ∷ uss) i ≡ Some us → f us ≡ []
    both_none e none zero us at = let is : vs ≡ us = cc in ap f (sym is) ∙ e
    both_none e none (suc i) us at = none i us at

    by : (xs : List OpName) → f vs ≡ xs →
        ((i : ℕ) (us : List Shadow) → slice_get uss i ≡ Some us → f us ≡ []) ⊎
        ((i : ℕ) × (us : List Shadow) × (x : OpName) × (slice_get uss i ≡ Some us) × (slice_get (f us) 0 ≡ Some x)) →
        ((i : ℕ) (us : List Shadow) → slice_get (vs ∷ uss) i ≡ Some us → f us ≡ []) ⊎
        ((i : ℕ) × (us : List Shadow) × (x : OpName) × (slice_get (vs ∷ uss) i ≡ Some us) × (slice_get (f us) 0 ≡ Some x))
    by (x ∷ xs) e rest = inr (0, vs, x, refl, ap (λ l. slice_get l 0) e)
    by [] e (inl none) = inl (both_none e none)
    by [] e (inr (i, us, x, at, q)) = inr (suc i, us, x, at, q)

-- ---- the histories of one world

module _ (laws : AllLaws) (s : Settings) (hs : List (List Entry)) (c : IsConfigured s) (one : AreOneWorlds s hs) where
  -- what the sites have applied, and what was made
  abbrev uss : List (List Shadow)
  uss = applied_from s 0 hs

  abbrev made : List Shadow
  made = made_in (world_of_run s one.events)

  -- what a site has applied is valid
  pub valid_list : (i : ℕ) (us : List Shadow) → slice_get uss i ≡ Some us → IsValid s us
  valid_list i us at =
      let h : IsSiteWith (world_of_run s one.events) i us = site_with s hs one i us at in
      subst (IsValid s) h.ops ((others_of laws s hs c one).valid_lists i h.site h.at)

  -- what is in a list is made and not applied
  listed : (us : List Shadow) (k : ℕ) (x : OpName) → slice_get (lacked s.sites uss us) k ≡ Some x
      → (names made x ≡ true) × (names us x ≡ false)
  listed us k x at =
      let p = and_parts (list_any (λ vs. names vs x) uss) (not (names us x)) (passes (lacks uss us) (next_names s.sites us) k x at) in
      let (j, vs, there, has) = any_there (λ vs. names vs x) uss p.0 in
      let (v, among, named) = Members.find_named vs x has in
      (ap (names made) (sym named) ∙ Members.named made v (was_made laws s hs c one j vs there v among), not-true (names us x) p.1)

  -- what is made and not applied has a name of its row in the list
  first_listed : (i : ℕ) (us : List Shadow) → slice_get uss i ≡ Some us → (y : OpName) → names made y ≡ true → names us y ≡ false
      → HasUpTo (lacked s.sites uss us) y
  first_listed i us at y has missing =
      let (v, among, named) = Members.find_named made y has in
      let (j, t, there, k) = (run_of s one.events).made v among in
      let at' : slice_get uss j ≡ Some t.ops = list_of s hs one j t there in
      has_up_to s uss us t.ops j y (valid_list i us at) (valid_list j t.ops at') at'
      (ap (names t.ops) (sym named) ∙ Members.named t.ops v k) missing

  -- if the books may be closed no site lacks anything
  nothing_open : MayBeClosed uss → (i : ℕ) (us : List Shadow) → slice_get uss i ≡ Some us → lacked s.sites uss us ≡ []
  nothing_open closed i us at =
      none_left (lacks uss us) (next_names s.sites us) (λ x. by x (Members.bool_cases (lacks uss us x)))
    where
      by : (x : OpName) → (lacks uss us x ≡ true) ⊎ (lacks uss us x ≡ false) → lacks uss us x ≡ false
      by x (inr e) = e
      by x (inl e) =
          let p = and_parts (list_any (λ vs. names vs x) uss) (not (names us x)) e in
          let (j, vs, there, has) = any_there (λ vs. names vs x) uss p.0 in
          let here : names us x ≡ true = same_names laws s hs c one closed i j us vs at there x ∙ has in
          absurd (Members.true≢false (sym p.1 ∙ ap not here))

  -- if no site lacks anything the books may be closed
  nothing_lacked : ((i : ℕ) (us : List Shadow) → slice_get uss i ≡ Some us → lacked s.sites uss us ≡ []) → MayBeClosed uss
  nothing_lacked none i j us vs at there =
      let valid : IsValid s us = valid_list i us at in
      let valid' : IsValid s vs = valid_list j vs there in
      same_clock us vs (λ k. (
        blue_most s uss vs us i k valid' valid at (none j vs there),
        blue_most s uss us vs j k valid valid' there (none i us at),
      )) (red_most s uss vs us i valid' valid at (none j vs there)) (red_most s uss us vs j valid valid' there (none i us at))

  -- if the books may not be closed, some site lacks something
  something_open : ¬ MayBeClosed uss → (i : ℕ) × (us : List Shadow) × (x : OpName) × (slice_get uss i ≡ Some us)
      × (slice_get (lacked s.sites uss us) 0 ≡ Some x)
  something_open unclosed = elim (none_or_some (lacked s.sites uss) uss) [
    | inl none ↦ absurd (unclosed (nothing_lacked none))
    | inr some ↦ some
  ]

-- the lists of an `open` line are what the sites lack
pub open_lists : AllLaws → OpenListsAreLacking
open_lists laws x c one = record {
  lacking = λ i us at. listed laws x.settings x.histories c one us;
  first = first_listed laws x.settings x.histories c one;
  some = something_open laws x.settings x.histories c one;
  none = (nothing_open laws x.settings x.histories c one, nothing_lacked laws x.settings x.histories c one);
}
