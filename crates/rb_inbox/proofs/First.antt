-- Which of the ready operations is the first.
use Rattle.std.proofs.Common.{◌≡◌, ℕ, suc, zero, ◌+◌, ◌<◌, ◌≤◌, Bool, true, false, cond, List, length, drop, refl, ap, sym, ◌∙◌}
use Rattle.std.proofs.Common.{add-one, arith, ◌⊎◌, inl, inr, subst, get_or}
use Rattle.std.specs.Prelude.{IfNone, IfSome, Option, Some, None, filter, nat_le, nat_lt, ◌==◌}
use Rattle.std.proofs.lemmas.Bool.Decides.{nat_tests}
use Rattle.std.proofs.lemmas.List.{drop_more}
use Rattle.rb_shadow.specs.Operations.{Among, find_in, row_of}
use Rattle.rb_shadow.specs.Sound.{is_foreign}
use Rattle.rb_shadow.specs.declared.deps.Deps.{Deps}
use Rattle.rb_shadow.specs.declared.op_name.OpName.{OpName}
use Rattle.rb_shadow.specs.declared.op_name.OpName.TheVariants.{Blue, Red}
use Rattle.rb_shadow.specs.declared.shadow.Shadow.{Shadow}
use Rattle.rb_shadow.proofs.Public.Lookups.{Among-index, found}
use Rattle.rb_inbox.specs.Held.{IsFirstOf, IsFirstReady, IsInOrder, IsNumbered, IsReady, comes_before, is_applied_before, is_sooner}
use Rattle.rb_inbox.specs.Rows.{AreHeldRows, IsFirstBlue, IsHeldRow, NoBlue, earlier_home, held_of}
use Rattle.rb_inbox.proofs.Changes.{finds, row_within}
use Rattle.rb_inbox.proofs.Order.{Among-find, Among-more, later_there}
use Rattle.rb_inbox.proofs.Public.{home_before}
use Rattle.rb_inbox.proofs.Readiness.{Among-filter, among_row, held_found}
use Rattle.rb_inbox.proofs.Rows.{is_of, is_of-yes, row_at}

-- ---- the order of two operations

-- one of a lesser home is applied before
lesser_home : (u v : Shadow) → u.home < v.home → is_applied_before u v ≡ true
lesser_home u v l = grind (arith, nat_tests)

-- of a home that isn't greater, one that is sooner by its name is applied before
sooner_before : (u v : Shadow) → u.home ≤ v.home → is_sooner u.name v.name ≡ true → is_applied_before u v ≡ true
sooner_before u v l h = grind (arith, nat_tests)

-- in one row the names are in the order of the applications
row_sooner : (x y : OpName) → row_of x ≡ row_of y → comes_before x y ≡ true → is_sooner x y ≡ true
row_sooner (Blue i m) (Blue j n) e h = grind (arith, nat_tests)
row_sooner (Blue i m) (Red n) e h = refl
row_sooner (Red m) (Blue j n) e h = absurd (omega arith)
row_sooner (Red m) (Red n) e h = h

-- a blue name is sooner than a red one
blue_sooner : (x y : OpName) → 1 ≤ row_of x → row_of y ≡ 0 → is_sooner x y ≡ true
blue_sooner (Blue i m) (Blue j n) l e = absurd (omega arith)
blue_sooner (Blue i m) (Red n) l e = refl
blue_sooner (Red m) y l e = absurd (omega arith)

-- the row of a blue operation is that of its home
home_of_row : (u : Shadow) → IsNumbered u → 1 ≤ row_of u.name → row_of u.name ≡ u.home + 1
home_of_row u numbered l = at u.name numbered.home l
  where
    at : (x : OpName) → is_foreign x u.home ≡ false → 1 ≤ row_of x → row_of x ≡ u.home + 1
    at (Blue i n) e low = grind (arith, nat_tests)
    at (Red n) e low = absurd (omega arith)

-- ---- the first one of a row

-- of the row's ready operations before an index this is the first
pub record Leads (row : List Shadow) (c : Deps) (i : ℕ) (f : Shadow) : Type 0 where
  pub among : Among f row
  pub ready : IsReady c f
  pub ahead : (u : Shadow) → Among u (drop i row) → comes_before f.name u.name ≡ true
  pub first : (u : Shadow) → Among u row → IsReady c u → Among u (drop i row) ⊎ ((u ≡ f) ⊎ (is_applied_before f u ≡ true))

-- the same of what was found, if none was, none of those is ready
abbrev pub IsFirstSoFar : List Shadow → Deps → ℕ → Option Shadow → Type 0
IsFirstSoFar row c i None = (u : Shadow) → Among u row → IsReady c u → Among u (drop i row)
IsFirstSoFar row c i (Some f) = Leads row c i f

-- what is left after the next is left before it
fewer : (us : List Shadow) (i : ℕ) (d u : Shadow) → i < length us → Among u (drop (i + 1) us) → Among u (drop i us)
fewer us i d u l a = subst (λ (ws : List Shadow). Among u ws) (sym (drop_more us i d l)) (inr a)

-- what is left after the next has a later name
later : (us : List Shadow) (i : ℕ) (d u : Shadow) → IsInOrder us → i < length us → Among u (drop (i + 1) us)
    → comes_before (get_or us i d).name u.name ≡ true
later us i d u order l a = later_there us i d u order l (subst (λ k. Among u (drop k us)) (add-one i) a)

-- what is left is the next, or is left after it
pub next_or_later : (us : List Shadow) (i : ℕ) (d u : Shadow) → i < length us → Among u (drop i us)
    → (u ≡ get_or us i d) ⊎ Among u (drop (i + 1) us)
next_or_later us i d u l a = subst (λ (ws : List Shadow). Among u ws) (drop_more us i d l) a

-- the next isn't ready
pub so_far_passed : (row : List Shadow) (c : Deps) (i : ℕ) (d : Shadow) (o : Option Shadow) → i < length row
    → (IsReady c (get_or row i d) → ⊥) → IsFirstSoFar row c i o → IsFirstSoFar row c (i + 1) o
so_far_passed row c i d None l waits h = λ u a r. Among-more row i d u l (h u a r) (λ e. waits (subst (IsReady c) e r))
so_far_passed row c i d (Some f) l waits h = record {
  among = h.among;
  ready = h.ready;
  ahead = λ u a. h.ahead u (fewer row i d u l a);
  first = λ u a r. elim (h.first u a r) [
    | inl k ↦ inl (Among-more row i d u l k (λ e. waits (subst (IsReady c) e r)))
    | inr q ↦ inr q
  ];
}

-- the next is ready
pub so_far_more : (row : List Shadow) (r : ℕ) (c : Deps) (i : ℕ) (d : Shadow) (o : Option Shadow) → IsHeldRow r row → i < length row
    → IsReady c (get_or row i d) → IsFirstSoFar row c i o → IsFirstSoFar row c (i + 1) (Some (earlier_home o (get_or row i d)))
so_far_more row r c i d None held l ready h = record {
  among = Among-index row i d l;
  ready = ready;
  ahead = λ u a. later row i d u held.in_order l a;
  first = λ u a q. elim (next_or_later row i d u l (h u a q)) [ inl e ↦ inr (inl e) | inr k ↦ inl k ];
}
so_far_more row r c i d (Some f) held l ready h = at (nat_le f.home s.home) refl
  where
    s : Shadow
    s = get_or row i d

    here : Among s row
    here = Among-index row i d l

    left : Among s (drop i row)
    left = subst (λ (ws : List Shadow). Among s ws) (sym (drop_more row i d l)) (inl refl)

    at : (b : Bool) → nat_le f.home s.home ≡ b → Leads row c (i + 1) (cond b f s)
    at true e =
        let low : f.home ≤ s.home = grind (arith, nat_tests) in
        let before : is_applied_before f s ≡ true = sooner_before f s low
        (row_sooner f.name s.name (held.placed f h.among ∙ sym (held.placed s here)) (h.ahead s left)) in
        record {
          among = h.among;
          ready = h.ready;
          ahead = λ u a. h.ahead u (fewer row i d u l a);
          first = λ u a q. elim (h.first u a q) [
            | inl k ↦ elim (next_or_later row i d u l k) [
              | inl g ↦ inr (inr (subst (λ w. is_applied_before f w ≡ true) (sym g) before))
              | inr m ↦ inl m
            ]
            | inr m ↦ inr m
          ];
        }
    at false e =
        let low : s.home < f.home = grind (arith, nat_tests) in
        record {
          among = here;
          ready = ready;
          ahead = λ u a. later row i d u held.in_order l a;
          first = λ u a q. elim (h.first u a q) [
            | inl k ↦ elim (next_or_later row i d u l k) [ inl g ↦ inr (inl g) | inr m ↦ inl m ]
            | inr (inl g) ↦ inr (inr (lesser_home s u (subst (λ (w : Shadow). s.home < w.home) (sym g) low)))
            | inr (inr g) ↦ inr (inr (lesser_home s u (let same : f.home ≤ u.home = home_before f u g in omega arith)))
          ];
        }

-- none of the rest is ready
pub so_far_all : (row : List Shadow) (c : Deps) (i : ℕ) (o : Option Shadow) → IsFirstSoFar row c i o
    → ((u : Shadow) → Among u row → Among u (drop i row) → IsReady c u → ⊥)
    → IfSome o (IsFirstOf row c) × IfNone o ((u : Shadow) → Among u row → ¬ IsReady c u)
so_far_all row c i None h none = (tt, λ u a r. none u a (h u a r) r)
so_far_all row c i (Some f) h none = (
  record {
    among = h.among;
    ready = h.ready;
    first = λ u a r. elim (h.first u a r) [ inl k ↦ absurd (none u a k r) | inr q ↦ q ];
  },
  tt,
)

-- ---- the first one of the blue rows

-- what is held is numbered
pub held_numbered : (lists : List (List Shadow)) (held : List Shadow) (u : Shadow) → AreHeldRows 0 lists → held_of lists ≡ held
    → Among u held → IsNumbered u
held_numbered lists held u h same a =
    (row_at lists (row_of u.name) h).numbered u (among_row lists u h (subst (Among u) (sym same) a))

-- what is held has a row
pub held_within : (lists : List (List Shadow)) (held : List Shadow) (u : Shadow) → AreHeldRows 0 lists → held_of lists ≡ held
    → Among u held → row_of u.name < length lists
held_within lists held u h same a =
    row_within lists u.name u (row_of u.name) refl h (held_found lists u h (subst (Among u) (sym same) a))

-- what is held is in a row, if its name says that
pub in_row : (held row : List Shadow) (r : ℕ) (u : Shadow) → row ≡ filter (is_of r) held → Among u held → row_of u.name ≡ r → Among u row
in_row held row r u same a e = subst (Among u) (sym same) (Among-filter (is_of r) held u a (is_of-yes r u e))

-- what is in a row is found among all that is held
found_there : (held row : List Shadow) (r : ℕ) (u : Shadow) → row ≡ filter (is_of r) held → IsHeldRow r row → Among u row
    → find_in held u.name ≡ Some u
found_there held row r u same h a = sym (finds row held u.name r (sym (h.placed u a)) same) ∙ Among-find row u h.in_order a

-- the next row has a ready one
pub blue_found : (held row : List Shadow) (c : Deps) (k end : ℕ) (v : Shadow) → row ≡ filter (is_of k) held → IsHeldRow k row
    → ((u : Shadow) → Among u held → IsNumbered u) → 1 ≤ k → k < end → NoBlue held c k → IsFirstOf row c v
    → IsFirstBlue held c end v.name
blue_found held row c k end v same h numbered low high none f = record {
  blue = v;
  found = found_there held row k v same h f.among;
  ready = f.ready;
  low = let e = placed in omega arith;
  high = let e = placed in omega arith;
  first = λ u a r b. at u a r b (nat_lt k (row_of u.name)) refl;
}
  where
    placed : row_of v.name ≡ k
    placed = h.placed v f.among

    at : (u : Shadow) → Among u held → IsReady c u → 1 ≤ row_of u.name → (b : Bool) → nat_lt k (row_of u.name) ≡ b
        → (u ≡ v) ⊎ (is_applied_before v u ≡ true)
    at u a r l true e =
        let less : k < row_of u.name = grind (arith, nat_tests) in
        let mine : row_of v.name ≡ v.home + 1 = home_of_row v (h.numbered v f.among) (let q = placed in omega arith) in
        let other : row_of u.name ≡ u.home + 1 = home_of_row u (numbered u a) l in
        inr (lesser_home v u (let q = placed in omega arith))
    at u a r l false e =
        let least : k ≤ row_of u.name = none u a r l in
        let most : row_of u.name ≤ k = grind (arith, nat_tests) in
        f.first u (in_row held row k u same a (omega arith)) r

-- the next row has none
pub blue_passed : (held row : List Shadow) (c : Deps) (k : ℕ) → row ≡ filter (is_of k) held → NoBlue held c k
    → ((u : Shadow) → Among u row → ¬ IsReady c u) → NoBlue held c (k + 1)
blue_passed held row c k same none waits u a r l = at (row_of u.name == k) refl
  where
    at : (b : Bool) → (row_of u.name == k) ≡ b → k + 1 ≤ row_of u.name
    at true e = absurd (waits u (in_row held row k u same a (grind (arith, nat_tests))) r)
    at false e = let least : k ≤ row_of u.name = none u a r l in grind (arith, nat_tests)

-- ---- the first one of all

-- if there is no answer, one fact for another
pub none_then : {P Q : Type 0} (o : Option OpName) → IfNone o P → (P → Q) → IfNone o Q
none_then None p f = f p
none_then (Some x) p f = tt

-- a number before the next of another is that or before it
pub last_or_before : (m n : ℕ) → m < n + 1 → (m ≡ n) ⊎ (m < n)
last_or_before m n l = at (nat_lt m n) refl
  where
    at : (b : Bool) → nat_lt m n ≡ b → (m ≡ n) ⊎ (m < n)
    at true e = inr (grind (arith, nat_tests))
    at false e = inl (grind (arith, nat_tests))

-- a number is none, or at least 1
none_or_some : (n : ℕ) → (n ≡ 0) ⊎ (1 ≤ n)
none_or_some zero = inl refl
none_or_some (suc n) = inr (omega arith)

-- no red one is ready
pub first_blue : (held row : List Shadow) (c : Deps) (end : ℕ) (x : OpName) → row ≡ filter (is_of 0) held
    → ((u : Shadow) → Among u row → ¬ IsReady c u) → IsFirstBlue held c end x → IsFirstReady held c x
first_blue held row c end x same none f = (
  f.blue,
  f.found,
  record {
    among = (found held x f.blue f.found).0;
    ready = f.ready;
    first = λ u a r. elim (none_or_some (row_of u.name)) [
      | inl e ↦ absurd (none u (in_row held row zero u same a e) r)
      | inr l ↦ f.first u a r l
    ];
  },
)

-- a red one is ready, and a blue one of its home or a lesser one
pub first_before_red : (held row : List Shadow) (c : Deps) (end : ℕ) (red : Shadow) (x : OpName) → row ≡ filter (is_of 0) held
    → ((u : Shadow) → Among u held → IsNumbered u) → end ≡ red.home + 2 → IsFirstOf row c red → IsFirstBlue held c end x
    → IsFirstReady held c x
first_before_red held row c end red x same numbered last first f = (
  f.blue,
  f.found,
  record {
    among = among;
    ready = f.ready;
    first = λ u a r. elim (none_or_some (row_of u.name)) [
      | inl e ↦ inr (sooner_before f.blue u (low u (first.first u (in_row held row zero u same a e) r))
          (blue_sooner f.blue.name u.name f.low e))
      | inr l ↦ f.first u a r l
    ];
  },
)
  where
    among : Among f.blue held
    among = (found held x f.blue f.found).0

    mine : row_of f.blue.name ≡ f.blue.home + 1
    mine = home_of_row f.blue (numbered f.blue among) f.low

    low : (u : Shadow) → (u ≡ red) ⊎ (is_applied_before red u ≡ true) → f.blue.home ≤ u.home
    low u (inl e) = let l = f.high in let m = mine in let s : u.home ≡ red.home = ap (λ (w : Shadow). w.home) e in omega arith
    low u (inr e) = let l = f.high in let m = mine in let s : red.home ≤ u.home = home_before red u e in omega arith

-- a red one is ready, and no such blue one
pub first_red : (held row : List Shadow) (c : Deps) (end : ℕ) (red : Shadow) → row ≡ filter (is_of 0) held → IsHeldRow 0 row
    → ((u : Shadow) → Among u held → IsNumbered u) → end ≡ red.home + 2 → IsFirstOf row c red → NoBlue held c end
    → IsFirstReady held c red.name
first_red held row c end red same h numbered last first none = (
  red,
  there,
  record {
    among = (found held red.name red there).0;
    ready = first.ready;
    first = λ u a r. elim (none_or_some (row_of u.name)) [
      | inl e ↦ first.first u (in_row held row zero u same a e) r
      | inr l ↦ inr (lesser_home red u (let k : row_of u.name ≡ u.home + 1 = home_of_row u (numbered u a) l in
          let m : end ≤ row_of u.name = none u a r l in omega arith))
    ];
  },
)
  where
    there : find_in held red.name ≡ Some red
    there = found_there held row zero red same h first.among

-- neither is ready
pub none_first : (held row : List Shadow) (c : Deps) (n : ℕ) → row ≡ filter (is_of 0) held
    → ((u : Shadow) → Among u row → ¬ IsReady c u) → ((u : Shadow) → Among u held → row_of u.name < n) → NoBlue held c n
    → (u : Shadow) → Among u held → ¬ IsReady c u
none_first held row c n same none within blue u a r = at (none_or_some (row_of u.name))
  where
    at : (row_of u.name ≡ 0) ⊎ (1 ≤ row_of u.name) → ⊥
    at (inl e) = none u (in_row held row zero u same a e) r
    at (inr l) = let past : n ≤ row_of u.name = blue u a r l in let low : row_of u.name < n = within u a in omega arith
