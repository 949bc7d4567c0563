-- The lists of what sites lack, one name after another.
use Rattle.rb_runs.proofs.Words.{◌≡◌, ◌≤◌, ℕ, suc, ◌+◌, List, [], ◌∷◌, ◌++◌, Bool, true, false, length, refl, ap, sym, ◌∙◌, map, arith}
use Rattle.rb_runs.proofs.Words.{filter, ◌==◌, range_with_len, nat_tests, map-range_with_len_more, IsConfigured, Settings, MOST_BLUE}
use Rattle.rb_runs.proofs.Words.{MOST_RED, blue_count, red_count, OpName, Blue, Red, Shadow, IsValid, within_limit}
use Rattle.std.proofs.lemmas.List.Elements.{filter-append}

-- the blue operations of a home are no more than there may be
pub few_blue : (s : Settings) (us : List Shadow) (i n : ℕ) → IsConfigured s → IsValid s us → n ≡ blue_count us i → n ≤ MOST_BLUE
few_blue s us i n c valid e =
    let low : blue_count us i ≤ s.limits.blue = within_limit s us (Blue i (blue_count us i)) valid refl in
    let most : s.limits.blue ≤ MOST_BLUE = c.blue.1 in
    omega (arith, e, low, most)

-- nor are the red ones
pub few_red : (s : Settings) (us : List Shadow) (n : ℕ) → IsConfigured s → IsValid s us → n ≡ red_count us → n ≤ MOST_RED
few_red s us n c valid e =
    let low : red_count us ≤ s.limits.red = within_limit s us (Red (red_count us)) valid refl in
    let most : s.limits.red ≤ MOST_RED = c.red.1 in
    omega (arith, e, low, most)

-- what passes of one name more
pub next_listed : (p : OpName → Bool) (f : ℕ → OpName) (old new : List OpName) (k : ℕ) (x : OpName)
    → old ≡ filter p (map f (range_with_len 0 k)) → new ≡ old ++ filter p (x ∷ []) → x ≡ f k
    → new ≡ filter p (map f (range_with_len 0 (k + 1)))
next_listed p f old new k x before more is =
    more ∙ ap (λ l. l ++ filter p (x ∷ [])) before
    ∙ ap (λ y. filter p (map f (range_with_len 0 k)) ++ filter p (y ∷ [])) is
    ∙ sym (filter-append p (map f (range_with_len 0 k)) (f k ∷ []))
    ∙ ap (filter p) (sym (map-range_with_len_more f 0 k k (omega arith)))

positive : (len n : ℕ) → len ≡ suc n → true ≡ (len == 0) → ⊥
positive len n e h = grind (arith, nat_tests)

-- a list of this length is empty
pub is_none : {X : Type 0} (len : ℕ) (xs : List X) → len ≡ length xs → true ≡ (len == 0) → xs ≡ []
is_none len [] e h = refl
is_none len (x ∷ xs) e h = absurd (positive len (length xs) e h)

-- a list of this length isn't
pub is_some : {X : Type 0} (len : ℕ) (xs : List X) → len ≡ length xs → false ≡ (len == 0) → xs ≡ [] → ⊥
is_some len xs e h none =
    let zero : len ≡ 0 = e ∙ ap length none in
    grind (arith, nat_tests)
