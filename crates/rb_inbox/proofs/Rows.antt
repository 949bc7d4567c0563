-- Lists of rows, and the operations that they hold.
use Rattle.std.proofs.Common.{◌≡◌, ℕ, suc, zero, ◌+◌, ◌<◌, ◌≤◌, Bool, true, false, cond, not, List, [], ◌∷◌, ◌++◌, length, set, replicate}
use Rattle.std.proofs.Common.{refl, ap, sym, ◌∙◌, arith, ◌⊎◌, inl, inr, subst, get_or, append-nil, length-append}
use Rattle.std.specs.Prelude.{◌==◌, Some, filter}
use Rattle.std.specs.List.{flat_map}
use Rattle.std.proofs.lemmas.Bool.Decides.{nat_tests}
use Rattle.std.proofs.lemmas.List.Concat.{flat_map-append}
use Rattle.std.proofs.lemmas.List.Elements.{filter-append, filter_agree}
use Rattle.rb_shadow.specs.Operations.{Among, find_in, is_blue_of, is_red, same_name, row_of}
use Rattle.rb_shadow.specs.declared.op_name.OpName.{OpName}
use Rattle.rb_shadow.specs.declared.op_name.OpName.TheVariants.{Blue, Red}
use Rattle.rb_shadow.specs.declared.shadow.Shadow.{Shadow}
use Rattle.rb_shadow.proofs.Public.Members
use Rattle.rb_shadow.specs.Sound.{is_foreign}
use Rattle.rb_inbox.specs.Held.{IsNumbered, ComesBeforeAll, comes_before, with_held, without}
use Rattle.rb_inbox.specs.Rows.{AreHeldRows, IsHeldRow, held_of}
use Rattle.rb_inbox.proofs.Order.{before-not_same, before-one_way, before_all-without}

-- the blue rows, one after another
abbrev joined : List (List Shadow) → List Shadow
joined rows = flat_map (λ us. us) rows

-- ---- the order of the rows

before-later : (x y : OpName) → 1 ≤ row_of x → row_of x < row_of y → comes_before x y ≡ true
before-later (Blue i m) (Blue j n) h l = grind (arith, nat_tests)
before-later (Blue i m) (Red n) h l = refl
before-later (Red m) y h l = absurd (omega arith)

before-red : (x y : OpName) → 1 ≤ row_of x → row_of y ≡ 0 → comes_before x y ≡ true
before-red (Blue i m) (Blue j n) h e = absurd (omega arith)
before-red (Blue i m) (Red n) h e = refl
before-red (Red m) y h e = absurd (omega arith)

before_all : (x : OpName) (us : List Shadow) → ((u : Shadow) → Among u us → comes_before x u.name ≡ true) → ComesBeforeAll x us
before_all x [] h = tt
before_all x (u ∷ us) h = (h u (inl refl), before_all x us (λ v a. h v (inr a)))

-- ---- one row of several

-- an empty list is any row
pub empty : (r : ℕ) → IsHeldRow r []
empty r = record { placed = λ u a. elim a [ ]; in_order = tt; numbered = λ u a. elim a [ ] }

-- a row past the last is empty
row_from : (s k r : ℕ) (rows : List (List Shadow)) → r ≡ s + k → AreHeldRows s rows → IsHeldRow r (get_or rows k [])
row_from s k r [] e h = empty r
row_from s zero r (us ∷ rows) e h = subst (λ n. IsHeldRow n us) (omega arith) h.0
row_from s (suc k) r (us ∷ rows) e h = row_from (suc s) k r rows (omega arith) h.1

-- each row is one of its own names
pub row_at : (rows : List (List Shadow)) (r : ℕ) → AreHeldRows 0 rows → IsHeldRow r (get_or rows r [])
row_at rows r h = row_from 0 r r rows (omega arith) h

set_from : (s k r : ℕ) (rows : List (List Shadow)) (us : List Shadow) → r ≡ s + k → AreHeldRows s rows → IsHeldRow r us →
    AreHeldRows s (set rows k us)
set_from s k r [] us e h row = tt
set_from s zero r (vs ∷ rows) us e h row = (subst (λ n. IsHeldRow n us) (omega arith) row, h.1)
set_from s (suc k) r (vs ∷ rows) us e h row = (h.0, set_from (suc s) k r rows us (omega arith) h.1 row)

-- the rows with one of them changed
pub rows-set : (rows : List (List Shadow)) (r : ℕ) (us : List Shadow) → AreHeldRows 0 rows → IsHeldRow r us → AreHeldRows 0 (set rows r us)
rows-set rows r us h row = set_from 0 r r rows us (omega arith) h row

-- the rows with empty ones after them
pub rows-more : (s n : ℕ) (rows : List (List Shadow)) → AreHeldRows s rows → AreHeldRows s (rows ++ replicate n [])
rows-more s zero [] h = tt
rows-more s (suc n) [] h = (empty s, rows-more (suc s) n [] tt)
rows-more s n (us ∷ rows) h = (h.0, rows-more (suc s) n rows h.1)

-- what is held is of no row before the first
joined_from : (rows : List (List Shadow)) (s : ℕ) (u : Shadow) → AreHeldRows s rows → Among u (joined rows) → s ≤ row_of u.name
joined_from [] s u h a = elim a [ ]
joined_from (us ∷ rows) s u h a = at (Members.Among-cases us (joined rows) u a) (joined_from rows (suc s) u h.1)
  where
    at : Among u us ⊎ Among u (joined rows) → (Among u (joined rows) → suc s ≤ row_of u.name) → s ≤ row_of u.name
    at (inl b) rest = let e : row_of u.name ≡ s = h.0.placed u b in omega arith
    at (inr b) rest = let l : suc s ≤ row_of u.name = rest b in omega arith

-- ---- empty rows hold nothing

joined-replicate : (n : ℕ) → joined (replicate n []) ≡ []
joined-replicate zero = refl
joined-replicate (suc n) = joined-replicate n

-- empty rows hold nothing
pub held-more : (rows : List (List Shadow)) (n : ℕ) → held_of (rows ++ replicate n []) ≡ held_of rows
held-more [] zero = refl
held-more [] (suc n) = ap (λ us. us ++ []) (joined-replicate n)
held-more (reds ∷ blues) n =
    ap (λ us. us ++ reds) (flat_map-append (λ us. us) blues (replicate n []) ∙ ap (λ us. joined blues ++ us) (joined-replicate n)
    ∙ append-nil (joined blues))

-- ---- the row at a place is what is held of that row

filter_all : (p : Shadow → Bool) (us : List Shadow) → ((u : Shadow) → Among u us → p u ≡ true) → filter p us ≡ us
filter_all p [] h = refl
filter_all p (u ∷ us) h = ap (λ b. cond b (u ∷ filter p us) (filter p us)) (h u (inl refl))
    ∙ ap (λ ws. u ∷ ws) (filter_all p us (λ v a. h v (inr a)))

filter_none : (p : Shadow → Bool) (us : List Shadow) → ((u : Shadow) → Among u us → p u ≡ false) → filter p us ≡ []
filter_none p [] h = refl
filter_none p (u ∷ us) h = ap (λ b. cond b (u ∷ filter p us) (filter p us)) (h u (inl refl)) ∙ filter_none p us (λ v a. h v (inr a))

-- whether the operation is of the row
abbrev pub is_of : ℕ → Shadow → Bool
is_of r u = row_of u.name == r

-- an operation of a row
pub is_of-yes : (r : ℕ) (u : Shadow) → row_of u.name ≡ r → is_of r u ≡ true
is_of-yes r u e = grind (arith, nat_tests)

is_of-no : (r : ℕ) (u : Shadow) → (row_of u.name ≡ r → ⊥) → is_of r u ≡ false
is_of-no r u e = grind (arith, nat_tests)

row_of_joined : (rows : List (List Shadow)) (s k : ℕ) → AreHeldRows s rows → filter (is_of (s + k)) (joined rows) ≡ get_or rows k []
row_of_joined [] s k h = refl
row_of_joined (us ∷ rows) s zero h =
    filter-append (is_of (s + 0)) us (joined rows)
    ∙ ap (λ vs. vs ++ filter (is_of (s + 0)) (joined rows)) (filter_all (is_of (s + 0)) us (λ u a. is_of-yes (s
    + 0) u (let e : row_of u.name ≡ s = h.0.placed u a in omega arith)))
    ∙ ap (λ vs. us ++ vs) (filter_none (is_of (s + 0)) (joined rows) (λ u a. is_of-no (s + 0) u (let l : suc s
    ≤ row_of u.name = joined_from rows (suc s) u h.1 a in λ e. omega arith)))
    ∙ append-nil us
row_of_joined (us ∷ rows) s (suc k) h =
    filter-append (is_of (s + suc k)) us (joined rows)
    ∙ ap (λ vs. vs ++ filter (is_of (s + suc k)) (joined rows)) (filter_none (is_of (s + suc k)) us (λ u a. is_of-no (s
    + suc k) u (let e : row_of u.name ≡ s = h.0.placed u a in λ q. omega arith)))
    ∙ ap (λ (r : ℕ). filter (is_of r) (joined rows)) (let e : s + suc k ≡ suc s + k = omega arith in e)
    ∙ row_of_joined rows (suc s) k h.1

-- a row is the held operations of its names
pub row_is : (rows : List (List Shadow)) (r : ℕ) → AreHeldRows 0 rows → get_or rows r [] ≡ filter (is_of r) (held_of rows)
row_is [] r h = refl
row_is (reds ∷ blues) zero h =
    sym (filter-append (is_of 0) (joined blues) reds
    ∙ ap (λ vs. vs ++ filter (is_of 0) reds) (filter_none (is_of 0) (joined blues) (λ u a. is_of-no 0 u (let l : 1
    ≤ row_of u.name = joined_from blues 1 u h.1 a in λ e. omega arith)))
    ∙ filter_all (is_of 0) reds (λ u a. is_of-yes 0 u (h.0.placed u a)))
row_is (reds ∷ blues) (suc k) h =
    sym (filter-append (is_of (suc k)) (joined blues) reds
    ∙ ap (λ vs. filter (is_of (suc k)) (joined blues) ++ vs) (filter_none (is_of (suc k)) reds
    (λ u a. is_of-no (suc k) u (let e : row_of u.name ≡ 0 = h.0.placed u a in λ q. omega arith)))
    ∙ append-nil (filter (is_of (suc k)) (joined blues))
    ∙ ap (λ (r : ℕ). filter (is_of r) (joined blues)) (let e : suc k ≡ 1 + k = omega arith in e)
    ∙ row_of_joined blues 1 k h.1)

-- the row of a site has its blue operations
pub blue_of : (i : ℕ) (us : List Shadow) → filter (is_of (i + 1)) us ≡ filter (λ u. is_blue_of u.name i) us
blue_of i us = filter_agree (is_of (i + 1)) (λ u. is_blue_of u.name i) (λ u. at u.name) us
  where
    at : (x : OpName) → (row_of x == i + 1) ≡ is_blue_of x i
    at (Blue j n) = grind (arith, nat_tests)
    at (Red n) = grind (arith, nat_tests)

-- and what is held under a site's names was made there
pub of_home : (i : ℕ) (us : List Shadow) (u : Shadow) → Among u (filter (λ u. is_blue_of u.name i) us) → IsNumbered u → u.home ≡ i
of_home i [] u a n = elim a [ ]
of_home i (v ∷ us) u a n = at (is_blue_of v.name i) refl a (λ k. of_home i us u k n)
  where
    by : (x : OpName) (home : ℕ) → is_blue_of x i ≡ true → is_foreign x home ≡ false → home ≡ i
    by (Blue j m) home e q = grind (arith, nat_tests)
    by (Red m) home e q = absurd (cc)

    at : (b : Bool) → is_blue_of v.name i ≡ b → Among u (cond b (v ∷ filter (λ u. is_blue_of u.name i) us)
        (filter (λ u. is_blue_of u.name i) us))
        → (Among u (filter (λ u. is_blue_of u.name i) us) → u.home ≡ i) → u.home ≡ i
    at true q (inl e) rest = by u.name u.home (ap (λ (w : Shadow). is_blue_of w.name i) e ∙ q) n.home
    at true q (inr k) rest = rest k
    at false q k rest = rest k

-- the first row has the red ones
pub red_of : (us : List Shadow) → filter (is_of 0) us ≡ filter (λ u. is_red u.name) us
red_of us = filter_agree (is_of 0) (λ u. is_red u.name) (λ u. at u.name) us
  where
    at : (x : OpName) → (row_of x == 0) ≡ is_red x
    at (Blue j n) = grind (arith, nat_tests)
    at (Red n) = refl

-- ---- a name is looked up in its row

-- a name is found in its row as in all
pub find_in_row : (us : List Shadow) (x : OpName) → find_in (filter (is_of (row_of x)) us) x ≡ find_in us x
find_in_row [] x = refl
find_in_row (u ∷ us) x = at (same_name u.name x) (is_of (row_of x) u) refl refl (find_in_row us x)
  where
    at : (s b : Bool) → same_name u.name x ≡ s → is_of (row_of x) u ≡ b → find_in (filter (is_of (row_of x)) us) x ≡ find_in us x
        → find_in (cond b (u ∷ filter (is_of (row_of x)) us) (filter (is_of (row_of x)) us)) x ≡ cond s (Some u) (find_in us x)
    at s true q e rest = ap (λ t. cond t (Some u) (find_in (filter (is_of (row_of x)) us) x)) q ∙ ap (λ o. cond s (Some u) o) rest
    at false false q e rest = rest
    at true false q e rest = absurd (let yes : is_of (row_of x) u ≡ true = is_of-yes (row_of x) u
        (ap row_of (Members.same_name-true u.name x q)) in cc)

-- ---- a change of a row

-- a change that concerns a name leaves alone what comes before the name, and what comes after it
pub record IsChangeAt (x : OpName) (f : List Shadow → List Shadow) : Type 0 where
  pub later : (us vs : List Shadow) → ((u : Shadow) → Among u us → comes_before u.name x ≡ true) → f (us ++ vs) ≡ us ++ f vs
  pub sooner : (us vs : List Shadow) → ((u : Shadow) → Among u vs → comes_before x u.name ≡ true) → f (us ++ vs) ≡ f us ++ vs

-- putting is a change at the name
pub putting : (v : Shadow) → IsChangeAt v.name (with_held v)
putting v = record { later = later; sooner = sooner }
  where
    later : (us vs : List Shadow) → ((u : Shadow) → Among u us → comes_before u.name v.name ≡ true) →
        with_held v (us ++ vs) ≡ us ++ with_held v vs
    later [] vs h = refl
    later (u ∷ us) vs h =
        ap (λ b. cond b (v ∷ u ∷ (us ++ vs)) (u ∷ with_held v (us ++ vs))) (before-one_way u.name v.name (h u (inl refl)))
        ∙ ap (λ ws. u ∷ ws) (later us vs (λ w a. h w (inr a)))

    sooner : (us vs : List Shadow) → ((u : Shadow) → Among u vs → comes_before v.name u.name ≡ true) →
        with_held v (us ++ vs) ≡ with_held v us ++ vs
    sooner [] [] h = refl
    sooner [] (w ∷ vs) h = ap (λ b. cond b (v ∷ w ∷ vs) (w ∷ with_held v vs)) (h w (inl refl))
    sooner (u ∷ us) vs h = at (comes_before v.name u.name) (sooner us vs h)
      where
        at : (b : Bool) → with_held v (us ++ vs) ≡ with_held v us ++ vs →
            cond b (v ∷ u ∷ (us ++ vs)) (u ∷ with_held v (us ++ vs)) ≡ cond b (v ∷ u ∷ us) (u ∷ with_held v us) ++ vs
        at true e = refl
        at false e = ap (λ ws. u ∷ ws) e

-- taking out is a change at the name
pub removing : (x : OpName) → IsChangeAt x (without x)
removing x = record { later = later; sooner = sooner }
  where
    later : (us vs : List Shadow) → ((u : Shadow) → Among u us → comes_before u.name x ≡ true) → without x (us ++ vs) ≡ us ++ without x vs
    later us vs h =
        filter-append (λ u. not (same_name u.name x)) us vs
        ∙ ap (λ ws. ws ++ without x vs) (filter_all (λ u. not (same_name u.name x)) us (λ u a. ap not (before-not_same u.name x (h u a))))

    sooner : (us vs : List Shadow) → ((u : Shadow) → Among u vs → comes_before x u.name ≡ true) → without x (us ++ vs) ≡ without x us ++ vs
    sooner us vs h = filter-append (λ u. not (same_name u.name x)) us vs
        ∙ ap (λ ws. without x us ++ ws) (before_all-without x vs (before_all x vs h))

joined-change : (x : OpName) (f : List Shadow → List Shadow) → IsChangeAt x f → (rows : List (List Shadow)) (s k : ℕ) → 1 ≤ s →
    AreHeldRows s rows → row_of x ≡ s + k → k < length rows
    → joined (set rows k (f (get_or rows k []))) ≡ f (joined rows)
joined-change x f local [] s k low h e l = absurd (omega arith)
joined-change x f local (us ∷ rows) s zero low h e l =
    sym (local.sooner us (joined rows) (λ u a. before-later x u.name (omega arith) (let n : suc s
    ≤ row_of u.name = joined_from rows (suc s) u h.1 a in omega arith)))
joined-change x f local (us ∷ rows) s (suc k) low h e l =
    ap (λ vs. us ++ vs) (joined-change x f local rows (suc s) k (omega arith) h.1 (omega arith) (omega arith))
    ∙ sym (local.later us (joined rows) (λ u a. let n : row_of u.name ≡ s = h.0.placed u a in
    before-later u.name x (omega arith) (omega arith)))

-- a change of the name's row is one of all that is held
pub held-change : (x : OpName) (f : List Shadow → List Shadow) → IsChangeAt x f → (rows : List (List Shadow)) (r : ℕ) → r ≡ row_of x →
    AreHeldRows 0 rows → r < length rows
    → held_of (set rows r (f (get_or rows r []))) ≡ f (held_of rows)
held-change x f local [] r e h l = absurd (omega arith)
held-change (Red n) f local (reds ∷ blues) zero e h l =
    sym (local.later (joined blues) reds (λ u a. before-red u.name (Red n) (joined_from blues 1 u h.1 a) refl))
held-change (Red n) f local (reds ∷ blues) (suc k) e h l = absurd (omega arith)
held-change (Blue i n) f local (reds ∷ blues) zero e h l = absurd (omega arith)
held-change (Blue i n) f local (reds ∷ blues) (suc k) e h l =
    ap (λ us. us ++ reds) (joined-change (Blue i n) f local blues 1 k (omega arith) h.1 (omega arith) (omega arith))
    ∙ sym (local.sooner (joined blues) reds (λ u a. before-red (Blue i n) u.name (omega arith) (h.0.placed u a)))

-- ---- how many are held

joined-length : (rows : List (List Shadow)) (k : ℕ) (us : List Shadow) → k < length rows →
    length (joined (set rows k us)) + length (get_or rows k []) ≡ length (joined rows) + length us
joined-length [] k us l = absurd (omega arith)
joined-length (vs ∷ rows) zero us l = omega (arith, length-append us (joined rows), length-append vs (joined rows))
joined-length (vs ∷ rows) (suc k) us l = omega (
  arith,
  length-append vs (joined rows),
  length-append vs (joined (set rows k us)),
  joined-length rows k us (omega arith),
)

-- how many are held once a row was changed
pub held-length : (rows : List (List Shadow)) (k : ℕ) (us : List Shadow) → k < length rows →
    length (held_of (set rows k us)) + length (get_or rows k []) ≡ length (held_of rows) + length us
held-length [] k us l = absurd (omega arith)
held-length (reds ∷ blues) zero us l = omega (arith, length-append (joined blues) us, length-append (joined blues) reds)
held-length (reds ∷ blues) (suc k) us l = omega (
  arith,
  length-append (joined (set blues k us)) reds,
  length-append (joined blues) reds,
  joined-length blues k us (omega arith),
)
