-- Lists of operations after a change.
use Rattle.rb_ledger.proofs.Words.{◌≡◌, ℕ, zero, suc, ◌+◌, ◌-◌, ◌<◌, ◌≤◌, List, [], ◌∷◌, ◌++◌, length, take, drop}
use Rattle.rb_ledger.proofs.Words.{get_or, refl, ap, sym, ◌∙◌, subst, arith, inl, inr, Some, None, true, false}
use Rattle.rb_ledger.proofs.Words.{length-take-le, is_some, option_to_list, if◌then◌else◌, Option, option_map}
use Rattle.rb_ledger.proofs.Words.{slice_get, slice_index, slice_set, replicate, ◌==◌, nat_le, ◌⊎◌, unwrap_or}
use Rattle.rb_ledger.proofs.Words.{and_parts, nat_tests, get_or_append_left, length-set, length-map, length_push}
use Rattle.rb_ledger.proofs.Words.{map_push, take-append-drop, take-take, take_all, set-append_left, set-get_or}
use Rattle.rb_ledger.proofs.Words.{slice_get_past, slice_get-map, get_or-append_seam, take-append_seam, Settings}
use Rattle.rb_ledger.proofs.Words.{MOST_SITES, Colour, Deps, OpName, Blue, Red, Shadow, entry_of, number_of, row_of}
use Rattle.rb_ledger.proofs.Words.{shown_colour, IsSound, are_entries, is_foreign, KeptOperation, IsOfSites}
use Rattle.rb_ledger.proofs.Words.{clock_count, clock_of_counts, kept_name, operations_of, padded, with_counts}
use Rattle.rb_ledger.proofs.Words.{and_from, not-false}
use Rattle.rb_shadow.proofs.Public.SoundFacts
use Rattle.rb_ledger.specs.OperationLists.{AreInOrder}

-- there are as many operations as are kept
pub as_many : (w : ℕ) (bs : List KeptOperation) (cs : List (List ℕ)) → length (operations_of w bs cs) ≡ length bs
as_many w bs cs = length-map bs (λ (b : KeptOperation). with_counts w b (get_or cs b.clock []))

-- past what is kept there is no operation
pub none_at : (w : ℕ) (bs : List KeptOperation) (ns : List (List ℕ)) (i : ℕ) → length bs ≤ i → slice_get (operations_of w bs ns) i ≡ None
none_at w bs ns i past = slice_get_past (operations_of w bs ns) i (omega (arith, past, as_many w bs ns))

-- an operation is there if what is kept of it is
pub one_at : (w : ℕ) (bs : List KeptOperation) (cs : List (List ℕ)) (i : ℕ) (b : KeptOperation) → slice_get bs i ≡ Some b →
    slice_get (operations_of w bs cs) i ≡ Some (with_counts w b (get_or cs b.clock []))
one_at w bs cs i b there =
    slice_get-map (λ (b : KeptOperation). with_counts w b (get_or cs b.clock [])) bs i
    ∙ ap (option_map (λ (b : KeptOperation). with_counts w b (get_or cs b.clock []))) there

-- ---- the numbers of the clocks

-- for no operations no clocks are kept
pub none_in_order : (bs : List KeptOperation) → bs ≡ [] → AreInOrder 0 bs
unfolding AreInOrder
none_in_order [] none = tt
none_in_order (b ∷ bs) none = cc

-- no fewer clocks are kept for more operations
none_above : (k : ℕ) (bs : List KeptOperation) → AreInOrder k bs → k ≤ clock_count k bs
unfolding AreInOrder
none_above k [] are = omega arith
none_above k (b ∷ bs) (inl next, are) = omega (arith, next, none_above (b.clock + 1) bs are)
none_above k (b ∷ bs) (inr same, are) = omega (arith, same, none_above (b.clock + 1) bs are)

-- there are at most as many clocks as operations
pub few_clocks : (k : ℕ) (bs : List KeptOperation) → AreInOrder k bs → clock_count k bs ≤ k + length bs
unfolding AreInOrder
few_clocks k [] are = omega arith
few_clocks k (b ∷ bs) (inl next, are) = omega (arith, next, few_clocks (b.clock + 1) bs are)
few_clocks k (b ∷ bs) (inr same, are) = omega (arith, same, few_clocks (b.clock + 1) bs are)

-- an operation's clock is one of those
pub clock_near : (k : ℕ) (bs : List KeptOperation) (i : ℕ) (b : KeptOperation) → AreInOrder k bs → slice_get bs i ≡ Some b →
    b.clock + 1 ≤ clock_count k bs
unfolding AreInOrder
clock_near k [] i b are there = cc
clock_near k (c ∷ bs) zero b (step, are) there =
    let here : c.clock ≡ b.clock = ap (λ (o : Option KeptOperation). unwrap_or (option_map (λ (b : KeptOperation). b.clock) o) 0) there in
    omega (arith, here, none_above (c.clock + 1) bs are)
clock_near k (c ∷ bs) (suc i) b (step, are) there = clock_near (c.clock + 1) bs i b are there

-- with one more operation there is one clock more than its number
pub count_more : (k : ℕ) (bs : List KeptOperation) (b : KeptOperation) → clock_count k (bs ++ b ∷ []) ≡ b.clock + 1
count_more k [] b = refl
count_more k (c ∷ bs) b = count_more (c.clock + 1) bs b

-- there is one clock more than the last operation's number
pub count_last : (k : ℕ) (bs : List KeptOperation) (b : KeptOperation) → slice_get bs (length bs - 1) ≡ Some b →
    clock_count k bs ≡ b.clock + 1
count_last k [] b there = cc
count_last k (c ∷ []) b there = ap (λ (o : Option KeptOperation). unwrap_or (option_map (λ (b : KeptOperation). b.clock + 1) o) 0) there
count_last k (c ∷ d ∷ bs) b there =
    let one : suc (suc (length bs)) - 1 ≡ suc (suc (length bs) - 1) = omega arith in
    count_last (c.clock + 1) (d ∷ bs) b (ap (slice_get (c ∷ d ∷ bs)) (sym one) ∙ there)

-- the next clock's number, or the one before
pub at_most : (m n : ℕ) → (m ≡ n) ⊎ (m + 1 ≡ n) → m ≤ n
at_most m n (inl next) = omega (arith, next)
at_most m n (inr same) = omega (arith, same)

-- one more operation, with the next clock or the last one
order_more : (k : ℕ) (bs : List KeptOperation) (b : KeptOperation) → AreInOrder k bs →
    (b.clock ≡ clock_count k bs) ⊎ (b.clock + 1 ≡ clock_count k bs) →
    AreInOrder k (bs ++ b ∷ [])
unfolding AreInOrder
order_more k [] b are step = (step, tt)
order_more k (c ∷ bs) b (first, are) step = (first, order_more (c.clock + 1) bs b are step)

-- the same of a list that is one longer
pub order_pushed : (bs cs : List KeptOperation) (b : KeptOperation) → cs ≡ bs ++ b ∷ [] → AreInOrder 0 bs →
    (b.clock ≡ clock_count 0 bs) ⊎ (b.clock + 1 ≡ clock_count 0 bs) → AreInOrder 0 cs
order_pushed bs cs b is are step = subst (AreInOrder 0) (sym is) (order_more 0 bs b are step)

-- without the last operation
order_front : (k : ℕ) (bs : List KeptOperation) (b : KeptOperation) → AreInOrder k (bs ++ b ∷ []) →
    AreInOrder k bs × ((b.clock ≡ clock_count k bs) ⊎ (b.clock + 1 ≡ clock_count k bs))
unfolding AreInOrder
order_front k [] b (step, are) = (tt, step)
order_front k (c ∷ bs) b (first, are) = let (rest, step) = order_front (c.clock + 1) bs b are in ((first, rest), step)

-- ---- clocks

-- an item of the first ones
set_take : (m r n : ℕ) (ns : List ℕ) → slice_set (take m ns) r n ≡ take m (slice_set ns r n)
set_take zero r n ns = refl
set_take (suc m) r n [] = refl
set_take (suc m) zero n (k ∷ ns) = refl
set_take (suc m) (suc r) n (k ∷ ns) = ap (λ ks. k ∷ ks) (set_take m r n ns)

-- a clock whose own entry is set, of a name of one of the sites
pub own_blue : (ns : List ℕ) (d : Deps) (i e : ℕ) → d ≡ clock_of_counts (length ns - 1) ns → i + 1 < length ns →
    record { blue = slice_set d.blue i e; red = d.red } ≡ clock_of_counts (length ns - 1) (slice_set ns (suc i) e)
own_blue [] d i e is near = absurd (omega (arith, near))
own_blue (n ∷ ms) d i e is near =
    let k = suc (length ms) - 1 in
    let long = length-set ms i e in
    let whole : take k ms ≡ ms = take_all k ms (omega arith) in
    ap (λ (c : Deps). record { blue = slice_set c.blue i e; red = c.red }) is
    ∙ ap (λ ks. record { blue = slice_set (padded ks) i e; red = n }) whole
    ∙ ap (λ ks. record { blue = ks; red = n }) (set-append_left ms (replicate (MOST_SITES - length ms) 0) i e (omega (arith, near))
    ∙ ap (λ j. slice_set ms i e ++ replicate (MOST_SITES - j) 0) (sym long)
    ∙ ap padded (sym (take_all k (slice_set ms i e) (omega (arith, long)))))

-- the same of a red name
pub own_red : (ns : List ℕ) (d : Deps) (e : ℕ) → d ≡ clock_of_counts (length ns - 1) ns → 0 < length ns →
    record { blue = d.blue; red = e } ≡ clock_of_counts (length ns - 1) (slice_set ns 0 e)
own_red [] d e is near = absurd (omega (arith, near))
own_red (n ∷ ms) d e is near = ap (λ (c : Deps). record { blue = c.blue; red = e }) is

-- the kind of the operation at an index
pub kind_at : (w : ℕ) (bs : List KeptOperation) (ns : List (List ℕ)) (i : ℕ) (b : KeptOperation) (d : Shadow) →
    i < length bs → b ≡ get_or bs i b →
    b.kind ≡ (get_or (operations_of w bs ns) i d).kind
kind_at w [] ns i b d near is = absurd (omega (arith, near))
kind_at w (c ∷ bs) ns zero b d near is = ap (λ (x : KeptOperation). x.kind) is
kind_at w (c ∷ bs) ns (suc i) b d near is = kind_at w bs ns i b d (omega (arith, near)) is

-- more clocks after the others change no operation
same_operations : (w k : ℕ) (bs : List KeptOperation) (cs ds : List (List ℕ)) → AreInOrder k bs → clock_count k bs ≤ length cs →
    operations_of w bs (cs ++ ds) ≡ operations_of w bs cs
unfolding AreInOrder
same_operations w k [] cs ds are many = refl
same_operations w k (b ∷ bs) cs ds (step, are) many =
    ap (λ ns. with_counts w b ns ∷ operations_of w bs (cs ++ ds))
    (get_or_append_left cs ds [] b.clock (omega (arith, many, none_above (b.clock + 1) bs are)))
    ∙ ap (λ us. with_counts w b (get_or cs b.clock []) ∷ us) (same_operations w (b.clock + 1) bs cs ds are many)

-- one more operation
pub pushed : (w : ℕ) (bs : List KeptOperation) (cs ds : List (List ℕ)) (b : KeptOperation) →
    AreInOrder 0 bs → length cs ≡ clock_count 0 bs →
    operations_of w (bs ++ b ∷ []) (cs ++ ds) ≡ operations_of w bs cs ++ with_counts w b (get_or (cs ++ ds) b.clock []) ∷ []
pushed w bs cs ds b are count =
    map_push (λ (b : KeptOperation). with_counts w b (get_or (cs ++ ds) b.clock [])) bs b
    ∙ ap (λ us. us ++ with_counts w b (get_or (cs ++ ds) b.clock []) ∷ []) (same_operations w 0 bs cs ds are (omega (arith, count)))

-- the clocks' numbers without the last operation's
pub popped_order : (bs cs : List KeptOperation) (b : KeptOperation) → bs ≡ cs ++ b ∷ [] → AreInOrder 0 bs → AreInOrder 0 cs
popped_order bs cs b is are = (order_front 0 cs b (subst (AreInOrder 0) is are)).0

-- as many clocks are there as are kept without the last operation
pub popped_count : (bs cs : List KeptOperation) (b : KeptOperation) → bs ≡ cs ++ b ∷ [] → AreInOrder 0 bs →
    clock_count 0 cs ≤ clock_count 0 bs
popped_count bs cs b is are = less (order_front 0 cs b (subst (AreInOrder 0) is are)).1
  where
    less : (b.clock ≡ clock_count 0 cs) ⊎ (b.clock + 1 ≡ clock_count 0 cs) → clock_count 0 cs ≤ clock_count 0 bs
    less (inl next) = omega (arith, next, ap (clock_count 0) is, count_more 0 cs b)
    less (inr same) = omega (arith, same, ap (clock_count 0) is, count_more 0 cs b)

-- without the last operation
pub popped : (w : ℕ) (bs cs : List KeptOperation) (ns ms : List (List ℕ)) (b : KeptOperation) → bs ≡ cs ++ b ∷ [] → AreInOrder 0 bs →
    length ns ≡ clock_count 0 bs → ms ≡ take (clock_count 0 cs) ns →
    operations_of w cs ms ≡ take (length (operations_of w bs ns) - 1) (operations_of w bs ns)
popped w bs cs ns ms b is are count cut =
    let k = clock_count 0 cs in
    let us = operations_of w cs ns in
    let last = with_counts w b (get_or ns b.clock []) in
    let front = popped_order bs cs b is are in
    let counted : length ms ≡ k = ap length cut ∙ length-take-le k ns (omega (arith, count, popped_count bs cs b is are)) in
    let kept : operations_of w cs ms ≡ us =
    sym (same_operations w 0 cs ms (drop k ns) front (omega (arith, counted)))
    ∙ ap (operations_of w cs) (ap (λ xs. xs ++ drop k ns) cut ∙ take-append-drop k ns) in
    let whole : operations_of w bs ns ≡ us ++ last ∷ [] =
    ap (λ xs. operations_of w xs ns) is ∙ map_push (λ (b : KeptOperation). with_counts w b (get_or ns b.clock [])) cs b in
    kept ∙ sym (ap (λ xs. take (length xs - 1) xs) whole
    ∙ ap (λ n. take n (us ++ last ∷ [])) (omega (arith, length_push us last))
    ∙ take-append_seam us (last ∷ []))

-- entries of which none past the first is more than 0 are these and zeros
zeros : (k limit : ℕ) (ns : List ℕ) → k ≡ 0 → are_entries k limit ns ≡ true → replicate (length ns) 0 ≡ ns
zeros k limit [] none h = refl
zeros k limit (n ∷ ns) none h =
    let p = and_parts (if k == 0 then n == 0 else nat_le n limit) (are_entries (k - 1) limit ns) h in
    ap (λ m. m ∷ replicate (length ns) 0) (sym (at k none p.0)) ∙ ap (λ ms. n ∷ ms) (zeros (k - 1) limit ns (omega arith) p.1)
  where
    at : (k : ℕ) → k ≡ 0 → (if k == 0 then n == 0 else nat_le n limit) ≡ true → n ≡ 0
    at zero e q = grind (arith, nat_tests)
    at (suc k) e q = absurd (omega arith)

-- the entries of a clock for this number of sites are those of the sites and zeros
entries_back : (k limit : ℕ) (ns : List ℕ) → are_entries k limit ns ≡ true → take k ns ++ replicate (length ns - length (take k ns)) 0 ≡ ns
entries_back zero limit ns h = ap (λ n. replicate n 0) (let all : length ns - 0 ≡ length ns = omega arith in all) ∙ zeros 0 limit ns refl h
entries_back (suc k) limit [] h = refl
entries_back (suc k) limit (n ∷ ns) h =
    let p = and_parts (if suc k == 0 then n == 0 else nat_le n limit) (are_entries (suc k - 1) limit ns) h in
    let less : suc (length ns) - suc (length (take k ns)) ≡ length ns - length (take k ns) = omega arith in
    let back : suc k - 1 ≡ k = omega arith in
    ap (λ m. n ∷ (take k ns ++ replicate m 0)) less
    ∙ ap (λ ms. n ∷ ms) (entries_back k limit ns (subst (λ j. are_entries j limit ns ≡ true) back p.1))

-- a clock for this number of sites is its first entries and zeros
whole_clock : (w : ℕ) (d : Deps) → IsOfSites w d → length d.blue ≡ MOST_SITES → padded (take w d.blue) ≡ d.blue
whole_clock w d (limit, are) full = ap (λ n. take w d.blue ++ replicate (n - length (take w d.blue)) 0) (sym full)
    ∙ entries_back w limit d.blue are

-- a name is what is kept of it, if a blue one's site is the home
name_again : (x : OpName) (home : ℕ) → is_foreign x home ≡ false → kept_name (shown_colour x) home (number_of x) ≡ x
name_again (Blue i n) home own = ap (λ k. Blue k n) (let same : home ≡ i = grind (arith, nat_tests) in same)
name_again (Red n) home own = refl

-- an operation is what is kept of it
pub whole_again : (w n : ℕ) (ns : List ℕ) (v : Shadow) (k : Colour) (m : ℕ) → k ≡ shown_colour v.name → m ≡ number_of v.name →
    is_foreign v.name v.home ≡ false →
    clock_of_counts w (slice_set ns (row_of v.name) (number_of v.name - 1)) ≡ v.deps →
    with_counts w (record {
      colour = k;
      home = v.home;
      account = v.account;
      number = m;
      kind = v.kind;
      clock = n;
      amount = v.amount;
    }) ns ≡ v
whole_again w n ns v k m colour number own clock =
    let name = ap (λ j. kept_name j v.home m) colour ∙ ap (kept_name (shown_colour v.name) v.home) number ∙ name_again v.name v.home own in
    let same = ap (λ x. clock_of_counts w (slice_set ns (row_of x) (m - 1))) name
    ∙ ap (λ j. clock_of_counts w (slice_set ns (row_of v.name) (j - 1))) number ∙ clock in
    λ j. record { name = name j; home = v.home; account = v.account; deps = same j; amount = v.amount; kind = v.kind }

-- a list of the first items with one of them as it is
set_same : (w i : ℕ) (ns : List ℕ) → slice_set (take w ns) i (slice_index ns i) ≡ take w ns
set_same w i ns = set_take w i (slice_index ns i) ns ∙ ap (take w) (set-get_or ns i 0)

-- what is kept of a clock, with the own entry that it has
own_kept : (w : ℕ) (d : Deps) (x : OpName) → entry_of d x + 1 ≡ number_of x →
    slice_set (d.red ∷ take w d.blue) (row_of x) (number_of x - 1) ≡ d.red ∷ take w d.blue
own_kept w d (Red n) own = ap (λ k. k ∷ take w d.blue) (let is : n - 1 ≡ d.red = omega (arith, own) in is)
own_kept w d (Blue i n) own =
    let is : n - 1 ≡ slice_index d.blue i = omega (arith, own) in
    ap (λ k. d.red ∷ slice_set (take w d.blue) i k) is ∙ ap (λ ks. d.red ∷ ks) (set_same w i d.blue)

-- the red entry and the first entries of a clock that has no others are all of it
kept_whole : (w : ℕ) (d : Deps) (x : OpName) → IsOfSites w d → length d.blue ≡ MOST_SITES → entry_of d x + 1 ≡ number_of x →
    clock_of_counts w (slice_set (d.red ∷ take w d.blue) (row_of x) (number_of x - 1)) ≡ d
kept_whole w d x sites full own =
    ap (clock_of_counts w) (own_kept w d x own)
    ∙ ap (λ ks. record { blue = padded ks; red = d.red }) (take-take w w d.blue (omega arith))
    ∙ ap (λ ks. record { blue = ks; red = d.red }) (whole_clock w d sites full)

-- a clock is what is kept of another, if the two are the same but for the own entry
pub kept_same : (w : ℕ) (ns : List ℕ) (d : Deps) (x : OpName) → IsOfSites w d → length d.blue ≡ MOST_SITES →
    entry_of d x + 1 ≡ number_of x →
    ((m : ℕ) → slice_set ns (row_of x) m ≡ slice_set (d.red ∷ take w d.blue) (row_of x) m) →
    clock_of_counts w (slice_set ns (row_of x) (number_of x - 1)) ≡ d
kept_same w ns d x sites full own same = ap (clock_of_counts w) (same (number_of x - 1)) ∙ kept_whole w d x sites full own

-- what is kept after the others
pub kept_behind : (w : ℕ) (cs ds : List (List ℕ)) (d : Deps) (x : OpName) → IsOfSites w d → length d.blue ≡ MOST_SITES →
    entry_of d x + 1 ≡ number_of x → ds ≡ cs ++ (d.red ∷ take w d.blue) ∷ [] →
    clock_of_counts w (slice_set (get_or ds (length cs) []) (row_of x) (number_of x - 1)) ≡ d
kept_behind w cs ds d x sites full own is =
    ap (λ ns. clock_of_counts w (slice_set ns (row_of x) (number_of x - 1)))
    (ap (λ es. get_or es (length cs) []) is ∙ get_or-append_seam cs (d.red ∷ take w d.blue) [] [])
    ∙ kept_whole w d x sites full own

-- what is 0 past some sites is 0 past more
pub wider : (k m limit : ℕ) (ns : List ℕ) → k ≤ m → are_entries k limit ns ≡ true → are_entries m limit ns ≡ true
wider k m limit [] more h = refl
wider k m limit (n ∷ ns) more h =
    let p = and_parts (if k == 0 then n == 0 else nat_le n limit) (are_entries (k - 1) limit ns) h in
    and_from _ _ (at k m more p.0) (wider (k - 1) (m - 1) limit ns (omega (arith, more)) p.1)
  where
    at : (k m : ℕ) → k ≤ m → (if k == 0 then n == 0 else nat_le n limit) ≡ true → (if m == 0 then n == 0 else nat_le n limit) ≡ true
    at zero zero more q = q
    at zero (suc m) more q = grind (arith, nat_tests)
    at (suc k) zero more q = absurd (omega (arith, more))
    at (suc k) (suc m) more q = grind (arith, nat_tests)

-- a sound operation's clock has no entries but those of the sites
pub of_sites : (s : Settings) (v : Shadow) (w : ℕ) → IsSound s v → s.sites ≤ w → IsOfSites w v.deps
of_sites s v w sound more =
    let facts = SoundFacts.sound_facts s v sound in
    let clock = and_parts (are_entries s.sites s.limits.blue v.deps.blue) (nat_le v.deps.red s.limits.red) (not-false _ facts.clock) in
    (s.limits.blue, wider s.sites w s.limits.blue v.deps.blue more clock.0)

-- what a pop takes that finds one
pub popped_kept : (r : Option KeptOperation) (bs cs : List KeptOperation) → bs ≡ cs ++ option_to_list r → true ≡ is_some r →
    (b : KeptOperation) × (bs ≡ cs ++ b ∷ [])
popped_kept (Some b) bs cs is some = (b, is)
popped_kept None bs cs is some = cc
