-- The names of a list of operations are those of a clock.
use Rattle.std.proofs.Common.{◌≡◌, ℕ, suc, zero, ◌+◌, ◌<◌, ◌≤◌, Bool, true, false, cond, ◌&&◌, ◌||◌, List, [], ◌∷◌, ◌++◌, refl, ap, sym}
use Rattle.std.proofs.Common.{◌∙◌, arith, ◌⊎◌, inl, inr, subst, get_or, append_assoc}
use Rattle.std.specs.Prelude.{nat_le, ◌==◌, map}
use Rattle.std.specs.List.{range_with_len}
use Rattle.std.proofs.lemmas.Bool.Decides.{nat_tests}
use Rattle.std.proofs.lemmas.List.FromFn.{get_or-map-range_with_len}
use Rattle.std.proofs.lemmas.List.{append-nil, get_or_past}
use Rattle.std.proofs.lemmas.List.Sums.{sum_by-append}
use Rattle.rb_money.specs.declared.limits.TheConstants.{MOST_SITES}
use Rattle.rb_shadow.specs.declared.shadow.Shadow.{Shadow}
use Rattle.rb_shadow.specs.declared.op_name.OpName.{OpName}
use Rattle.rb_shadow.specs.declared.op_name.OpName.TheVariants.{Blue, Red}
use Rattle.rb_shadow.specs.declared.deps.Deps.{Deps}
use Rattle.rb_shadow.specs.Operations.{Among, same_name, names, past, names_of_clock, IsUnique, IsWithin, AreSame, EachEntry, number_of}
use Rattle.rb_shadow.specs.Operations.{entry_of, HasEntry, is_blue_of, is_red, blue_count, red_count, clock_of}
use Rattle.rb_shadow.proofs.Public.Members

-- how many of the operations have a name of the same row: blue of the same site, or red
abbrev pub row_count : List Shadow → OpName → ℕ
row_count us (Blue i n) = blue_count us i
row_count us (Red n) = red_count us

-- the numbers of a row run from 1 to its count
abbrev pub IsCounted : List Shadow → Type 0
IsCounted us = (x : OpName) → names us x ≡ (nat_le 1 (number_of x) && nat_le (number_of x) (row_count us x))

-- a number after 1, and the entry for its own name one less
pub record IsNext (v : Shadow) : Type 0 where
  pub positive : 1 ≤ number_of v.name
  pub own : entry_of v.deps v.name + 1 ≡ number_of v.name

-- the blue operations of two lists together
pub blue_count-append : (us vs : List Shadow) (i : ℕ) → blue_count (us ++ vs) i ≡ blue_count us i + blue_count vs i
blue_count-append us vs i = sum_by-append (λ u. cond (is_blue_of u.name i) 1 0) us vs

-- the red ones
pub red_count-append : (us vs : List Shadow) → red_count (us ++ vs) ≡ red_count us + red_count vs
red_count-append us vs = sum_by-append (λ u. cond (is_red u.name) 1 0) us vs

-- a number from 1 to another passes the test
pub in_range : (m c : ℕ) → 1 ≤ m → m ≤ c → (nat_le 1 m && nat_le m c) ≡ true
in_range m c h k = grind (arith, nat_tests)

-- and what passes is one
pub in_range-true : (m c : ℕ) → (nat_le 1 m && nat_le m c) ≡ true → (1 ≤ m) × (m ≤ c)
in_range-true m c h = (grind (arith, nat_tests), grind (arith, nat_tests))

-- what doesn't pass, from 1 on, is above it
pub in_range-false : (m c : ℕ) → (nat_le 1 m && nat_le m c) ≡ false → 1 ≤ m → c < m
in_range-false m c h k = grind (arith, nat_tests)

next_plain : (c e n : ℕ) (row : ℕ → Bool) → ((m : ℕ) → row m ≡ (nat_le 1 m && nat_le m c)) → row n ≡ false → e + 1 ≡ n →
    ((m : ℕ) → (nat_le 1 m && nat_le m e) ≡ true → row m ≡ true) → n ≡ c + 1
next_plain c zero n row counted fresh is within =
    let above : c < n = in_range-false n c (sym (counted n) ∙ fresh) (omega arith) in
    omega arith
next_plain c (suc e) n row counted fresh is within =
    let above : c < n = in_range-false n c (sym (counted n) ∙ fresh) (omega arith) in
    let below : (1 ≤ suc e) × (suc e ≤ c) = in_range-true (suc e) c (sym (counted (suc e))
    ∙ within (suc e) (in_range (suc e) (suc e) (omega arith) (omega arith))) in
    omega arith

-- one more operation has the next number of its row
next_named : (us : List Shadow) (c : Deps) (x : OpName) → IsCounted us → entry_of c x + 1 ≡ number_of x → names us x ≡ false →
    IsWithin (names_of_clock c) (names us) → number_of x ≡ row_count us x + 1
next_named us c (Blue i n) counted own fresh within = next_plain (blue_count us i) (get_or c.blue i 0) n (λ m. names us (Blue i m))
    (λ m. counted (Blue i m)) fresh own (λ m h. within (Blue i m) h)
next_named us c (Red n) counted own fresh within = next_plain (red_count us) c.red n (λ m. names us (Red m)) (λ m. counted (Red m)) fresh
    own (λ m h. within (Red m) h)

-- a new operation's number is the next of its row
pub next_number : (us : List Shadow) (v : Shadow) → IsCounted us → IsNext v → names us v.name ≡ false → IsWithin (past v) (names us) →
    number_of v.name ≡ row_count us v.name + 1
unfolding past
next_number us v counted next fresh within = next_named us v.deps v.name counted next.own fresh within

-- the row goes on by one, or stays
range_more : (m n c d : ℕ) (b t : Bool) → t ≡ true → n ≡ c + 1 → b ≡ (nat_le 1 m && nat_le m c) →
    (b || (n == m || false)) ≡ (nat_le 1 m && nat_le m (c + (0 + cond t 1 0)))
range_more m n c d true t e k h =
    let r : (1 ≤ m) × (m ≤ c) = in_range-true m c (sym h) in
    sym (ap (λ b. nat_le 1 m && nat_le m (c + (0 + cond b 1 0))) e ∙ in_range m (c + (0 + 1)) r.0 (omega arith))
range_more m n c d false t e k h = elim (Members.bool_cases (n == m)) [
  | inl q ↦ ap (λ b. b || false) q ∙ sym (ap (λ b. nat_le 1 m && nat_le m (c + (0 + cond b 1 0))) e
      ∙ in_range m (c + (0 + 1)) (grind (arith, nat_tests)) (grind (arith, nat_tests)))
  | inr q ↦ ap (λ b. b || false) q ∙ sym (ap (λ b. nat_le 1 m && nat_le m (c + (0 + cond b 1 0))) e ∙ beyond m n c k q (sym h))
]
  where
    beyond : (m n c : ℕ) → n ≡ c + 1 → (n == m) ≡ false → (nat_le 1 m && nat_le m c) ≡ false →
        (nat_le 1 m && nat_le m (c + (0 + 1))) ≡ false
    beyond m n c k q h = grind (arith, nat_tests)

range_same : (m c : ℕ) (b t : Bool) → t ≡ false → b ≡ (nat_le 1 m && nat_le m c) →
    (b || (false || false)) ≡ (nat_le 1 m && nat_le m (c + (0 + cond t 1 0)))
range_same m c true t e h = h ∙ ap (λ k. nat_le 1 m && nat_le m k) (let q : c ≡ c + (0 + 0) = omega arith in q)
    ∙ ap (λ b. nat_le 1 m && nat_le m (c + (0 + cond b 1 0))) (sym e)
range_same m c false t e h = h ∙ ap (λ k. nat_le 1 m && nat_le m k) (let q : c ≡ c + (0 + 0) = omega arith in q)
    ∙ ap (λ b. nat_le 1 m && nat_le m (c + (0 + cond b 1 0))) (sym e)

counted_more : (us : List Shadow) (v : Shadow) → IsCounted us → (y : OpName) → v.name ≡ y → number_of y ≡ row_count us y + 1 → (x : OpName)
    → (names us x || (same_name y x || false)) ≡ (nat_le 1 (number_of x) && nat_le (number_of x) (row_count us x + row_count (v ∷ []) x))
counted_more us v counted (Blue i n) e next (Blue j m) = elim (Members.bool_cases (i == j)) [
  | inl q ↦ ap (λ b. names us (Blue j m) || ((b && n == m) || false)) q
      ∙ range_more m n (blue_count us j) 0 (names us (Blue j m)) (is_blue_of v.name j) (ap (λ y. is_blue_of y j) e ∙ q) (next
      ∙ ap (λ k. blue_count us k + 1) (grind (arith, nat_tests))) (counted (Blue j m))
  | inr q ↦ ap (λ b. names us (Blue j m) || ((b && n == m) || false)) q
      ∙ range_same m (blue_count us j) (names us (Blue j m)) (is_blue_of v.name j) (ap (λ y. is_blue_of y j) e ∙ q) (counted (Blue j m))
]
counted_more us v counted (Blue i n) e next (Red m) = range_same m (red_count us) (names us (Red m)) (is_red v.name) (ap is_red e)
    (counted (Red m))
counted_more us v counted (Red n) e next (Blue j m) = range_same m (blue_count us j) (names us (Blue j m)) (is_blue_of v.name j)
    (ap (λ y. is_blue_of y j) e) (counted (Blue j m))
counted_more us v counted (Red n) e next (Red m) = range_more m n (red_count us) 0 (names us (Red m)) (is_red v.name) (ap is_red e) next
    (counted (Red m))

row_count-push : (us : List Shadow) (v : Shadow) (x : OpName) → row_count (us ++ v ∷ []) x ≡ row_count us x + row_count (v ∷ []) x
row_count-push us v (Blue i n) = blue_count-append us (v ∷ []) i
row_count-push us v (Red n) = red_count-append us (v ∷ [])

-- the counts with one more operation
pub counted_push : (us : List Shadow) (v : Shadow) → IsCounted us → IsNext v → names us v.name ≡ false → IsWithin (past v) (names us) →
    IsCounted (us ++ v ∷ [])
counted_push us v counted next fresh within x =
    Members.names-append us (v ∷ []) x ∙ counted_more us v counted v.name refl (next_number us v counted next fresh within) x
    ∙ ap (λ k. nat_le 1 (number_of x) && nat_le (number_of x) k) (sym (row_count-push us v x))

counted_none : (x : OpName) → names [] x ≡ (nat_le 1 (number_of x) && nat_le (number_of x) (row_count [] x))
counted_none (Blue i n) = grind (arith, nat_tests)
counted_none (Red n) = grind (arith, nat_tests)

-- one operation after another
counted_along : (front back : List Shadow) → EachEntry (front ++ back) (λ before v. IsNext v) → IsUnique (front ++ back) →
    EachEntry (front ++ back) (λ before v. IsWithin (past v) (names before)) → IsCounted front → IsCounted (front ++ back)
counted_along front [] next unique past_before counted = subst IsCounted (sym (append-nil front)) counted
counted_along front (v ∷ back) next unique past_before counted =
    subst IsCounted (append_assoc front (v ∷ []) back)
    (counted_along (front ++ v ∷ []) back
    (subst (λ us. EachEntry us (λ before v. IsNext v)) (sym (append_assoc front (v ∷ []) back)) next)
    (subst IsUnique (sym (append_assoc front (v ∷ []) back)) unique)
    (subst (λ us. EachEntry us (λ before v. IsWithin (past v) (names before))) (sym (append_assoc front (v ∷ []) back)) past_before)
    (counted_push front v counted (next front v back refl) (Members.IsUnique-last front back v unique) (past_before front v back refl)))

-- a list of next operations is counted
pub counted_all : (us : List Shadow) → EachEntry us (λ before v. IsNext v) → IsUnique us →
    EachEntry us (λ before v. IsWithin (past v) (names before)) → IsCounted us
counted_all us next unique past_before = counted_along [] us next unique past_before counted_none

-- a fact of each entry, at a member
pub at_member : (us : List Shadow) (P : List Shadow → Shadow → Type 0) (u : Shadow) → EachEntry us P → Among u us →
    (before : List Shadow) × P before u
at_member us P u each h = let (front, back, e) = Members.split_at us u h in (front, each front u back e)

-- a blue name is of a site that a clock has an entry for
abbrev pub IsHoused : OpName → Type 0
IsHoused x = HasEntry x

housed : (us : List Shadow) (x : OpName) → EachEntry us (λ before v. IsHoused v.name) → names us x ≡ true → IsHoused x
housed us x each h =
    let (u, there, e) = Members.find_named us x h in
    subst IsHoused e (at_member us (λ before v. IsHoused v.name) u each there).1

nothing : (n : ℕ) → false ≡ (nat_le 1 n && nat_le n 0)
nothing n = grind (arith, nat_tests)

-- ---- the law: the names of a list are those of a clock
-- a list's names are those of its clock
pub names_are_clock : (us : List Shadow) → EachEntry us (λ before v. IsNext v) → EachEntry us (λ before v. IsHoused v.name) → IsUnique us →
    EachEntry us (λ before v. IsWithin (past v) (names before)) → AreSame (names us) (names_of_clock (clock_of us))
unfolding clock_of
names_are_clock us next each unique past_before (Red n) = counted_all us next unique past_before (Red n)
names_are_clock us next each unique past_before (Blue i n) = at (Members.bool_cases (nat_le MOST_SITES i))
  where
    here : names us (Blue i n) ≡ (nat_le 1 n && nat_le n (blue_count us i))
    here = counted_all us next unique past_before (Blue i n)

    at : (nat_le MOST_SITES i ≡ true) ⊎ (nat_le MOST_SITES i ≡ false) →
        names us (Blue i n) ≡ (nat_le 1 n && nat_le n (get_or (map (blue_count us) (range_with_len 0 MOST_SITES)) i 0))
    at (inl q) = none (Members.bool_cases (names us (Blue i n)))
        ∙ ap (λ k. nat_le 1 n && nat_le n k) (sym (get_or_past (map (blue_count us) (range_with_len 0 MOST_SITES)) i 0 (let far : MOST_SITES
        ≤ i = grind (arith, nat_tests) in far)))
      where
        none : (names us (Blue i n) ≡ true) ⊎ (names us (Blue i n) ≡ false) → names us (Blue i n) ≡ (nat_le 1 n && nat_le n 0)
        none (inl t) = absurd (let near : i < MOST_SITES = housed us (Blue i n) each t in
            let far : MOST_SITES ≤ i = grind (arith, nat_tests) in omega arith)
        none (inr t) = t ∙ nothing n
    at (inr q) = here ∙ ap (λ k. nat_le 1 n && nat_le n k) (sym (get_or-map-range_with_len (blue_count us) 0 MOST_SITES i i 0 (grind (
      arith,
      nat_tests,
    )) (omega arith)))
