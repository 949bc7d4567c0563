-- The counts of all sites: written, and read back.
use Rattle.rb_history.proofs.Words.{counts_at, counts_in, numbered_at, numbered_from, numbered_in, numbered_json, widened, blue_at}
use Rattle.rb_history.proofs.Words.{blue_json, Each, list_json, number_below, number_json, equal, below, IsVersion, MOST_SITES}
use Rattle.rb_history.proofs.Words.{MOST_SITES_OF_VERSION_1, Data, Items, item, items_of, items_view, view, compact_text, Value, Bool}
use Rattle.rb_history.proofs.Words.{IfSome, List, None, Option, Some, [], ap, append-nil, append_assoc, ap₂, arith, codes, drop, false, inl}
use Rattle.rb_history.proofs.Words.{inr, length, length-append, refl, set, subst, suc, sym, take, take-append-drop, true, zero, ℕ, ◌++◌}
use Rattle.rb_history.proofs.Words.{◌+◌, ◌-◌, ◌<◌, ◌==◌, ◌^◌, ◌∙◌, ◌∷◌, ◌≡◌, ◌≤◌, take-add, eqb-true, le-leb, ne_eqb, nat_tests, drop-drop}
use Rattle.rb_history.proofs.Words.{drop-replicate, drop-set-lt, drop_all, drop_at, length-drop, length-replicate, length-take-le}
use Rattle.rb_history.proofs.Words.{replicate_more, take-replicate, take_at, take_more_set, if◌then◌else◌, map, option_and_then, option_map}
use Rattle.rb_history.proofs.Words.{replicate}
use Rattle.rb_history.proofs.FitsLaws.{fits_map, fits_next}
use Rattle.rb_history.proofs.Reading.{with_front, each_more}
use Rattle.rb_history.proofs.Public.Listed.{rest_text}
use Rattle.rb_history.proofs.Public.Each.{each_both}

-- ---- written

-- once the count at a place is written, what is left to write are those from the next place on
pub one_written : (counts : List ℕ) (i n : ℕ) (out new comma next total : List ℕ) → drop i counts ≡ n ∷ drop (i + 1) counts
    → new ≡ out ++ (if n == 0 then [] else comma ++ compact_text (numbered_json (i, n))) → next ≡ (if n == 0 then comma else codes ",")
    → out ++ rest_text comma (map numbered_json (numbered_from i (drop i counts))) ≡ total
    → new ++ rest_text next (map numbered_json (numbered_from (i + 1) (drop (i + 1) counts))) ≡ total
one_written counts i n out new comma next total is e f h = by (n == 0) e f
    (ap (λ l. out ++ rest_text comma (map numbered_json (numbered_from i l))) (sym is) ∙ h)
  where
    later : List (ℕ × ℕ)
    later = numbered_from (i + 1) (drop (i + 1) counts)

    by : (b : Bool) → new ≡ out ++ (if b then [] else comma ++ compact_text (numbered_json (i, n)))
        → next ≡ (if b then comma else codes ",")
        → out ++ rest_text comma (map numbered_json (if b then later else (i, n) ∷ later)) ≡ total
        → new ++ rest_text next (map numbered_json later) ≡ total
    by true e f h = ap₂ (λ o c. o ++ rest_text c (map numbered_json later)) (e ∙ append-nil out) f ∙ h
    by false e f h =
        let rest = rest_text (codes ",") (map numbered_json later) in
        let this = compact_text (numbered_json (i, n)) in
        ap₂ (λ o c. o ++ rest_text c (map numbered_json later)) e f ∙ append_assoc out (comma ++ this) rest
        ∙ ap (λ l. out ++ l) (append_assoc comma this rest) ∙ h

-- past the last count none is listed
pub numbered_end : (ns : List ℕ) (i : ℕ) → length ns ≤ i → numbered_from i (drop i ns) ≡ []
numbered_end ns i past = ap (numbered_from i) (drop_all i ns past)

-- the numbers of sites and the counts fit
pub numbered_fit : (i : ℕ) (ns : List ℕ) → i + length ns ≤ MOST_SITES → Each (λ n. n < 2 ^ 32) ns
    → Each (λ (p : ℕ × ℕ). (p.0 < 2 ^ 64) × (p.1 < 2 ^ 64)) (numbered_from i ns)
numbered_fit i [] within h = tt
numbered_fit i (n ∷ ns) within h = at (n == 0) (numbered_fit (i + 1) ns (omega arith) h.1)
  where
    at : (b : Bool) → Each (λ (p : ℕ × ℕ). (p.0 < 2 ^ 64) × (p.1 < 2 ^ 64)) (numbered_from (i + 1) ns)
        → Each (λ (p : ℕ × ℕ). (p.0 < 2 ^ 64) × (p.1 < 2 ^ 64)) (if b then numbered_from (i + 1) ns else (i, n) ∷ numbered_from (i + 1) ns)
    at true later = later
    at false later = let small : n < 2 ^ 32 = h.0 in ((omega arith, omega arith), later)

-- ---- read

-- what is before one more and at it
pub one_further : (counts : List ℕ) (least site n : ℕ) → length counts ≡ MOST_SITES → least ≤ site → site < MOST_SITES
    → drop least counts ≡ replicate (MOST_SITES - least) 0
    → take (site + 1) (set counts site n) ≡ (take least counts ++ replicate (site - least) 0) ++ n ∷ []
one_further counts least site n long low near none =
    let sum : site ≡ least + (site - least) = omega arith in
    let between : take site counts ≡ take least counts ++ replicate (site - least) 0 =
    ap (λ k. take k counts) sum ∙ take-add least (site - least) counts
    ∙ ap (λ l. take least counts ++ l)
    (ap (take (site - least)) none ∙ take-replicate (site - least) (MOST_SITES - least) 0 (omega arith)) in
    take_more_set counts site n (omega arith) ∙ ap (λ l. l ++ n ∷ []) between

-- one more of a list is read
one_read : (counts : List ℕ) (least site n : ℕ) (d : Data) (ds : Items) (whole : Option (List ℕ)) → length counts ≡ MOST_SITES
    → least ≤ site → site < MOST_SITES → drop least counts ≡ replicate (MOST_SITES - least) 0
    → numbered_at least d ≡ Some (site, n) → with_front (take least counts) (numbered_in least (item d ds)) ≡ whole
    → with_front (take (site + 1) (set counts site n)) (numbered_in (site + 1) ds) ≡ whole
one_read counts least site n d ds whole long low near none is so = by (numbered_in (site + 1) ds) refl
  where
    read : with_front (take least counts)
        (option_map (λ later. replicate (site - least) 0 ++ n ∷ later) (numbered_in (site + 1) ds)) ≡ whole
    read = ap (λ o. with_front (take least counts)
        (option_and_then (λ (p : ℕ × ℕ). option_map (λ later. replicate (p.0 - least) 0 ++ p.1 ∷ later) (numbered_in (p.0 + 1) ds)) o))
        (sym is) ∙ so

    by : (o : Option (List ℕ)) → numbered_in (site + 1) ds ≡ o → with_front (take (site + 1) (set counts site n)) o ≡ whole
    by None e = ap (λ o. with_front (take least counts) (option_map (λ later. replicate (site - least) 0 ++ n ∷ later) o)) (sym e) ∙ read
    by (Some later) e =
        let zeros = replicate (site - least) 0 in
        let begun = take least counts in
        let whole_list : ((begun ++ zeros) ++ n ∷ []) ++ later ≡ begun ++ (zeros ++ n ∷ later) = append_assoc (begun ++ zeros)
        (n ∷ []) later ∙ append_assoc begun zeros (n ∷ later) in
        ap Some (ap (λ l. l ++ later) (one_further counts least site n long low near none) ∙ whole_list)
        ∙ ap (λ o. with_front begun (option_map (λ ms. zeros ++ n ∷ ms) o)) (sym e) ∙ read

-- the same of a list's values
pub value_read : (counts : List ℕ) (least site n : ℕ) (values : List Value) (i : ℕ) (v : Value) (whole : Option (List ℕ))
    → length counts ≡ MOST_SITES → least ≤ site → site < MOST_SITES → drop least counts ≡ replicate (MOST_SITES - least) 0
    → drop i values ≡ v ∷ drop (i + 1) values → numbered_at least (view v) ≡ Some (site, n)
    → with_front (take least counts) (numbered_in least (items_view (drop i values))) ≡ whole
    → with_front (take (site + 1) (set counts site n)) (numbered_in (site + 1) (items_view (drop (i + 1) values))) ≡ whole
value_read counts least site n values i v whole long low near none here is so =
    one_read counts least site n (view v) (items_view (drop (i + 1) values)) whole long low near none is
    (ap (λ vs. with_front (take least counts) (numbered_in least (items_view vs))) (sym here) ∙ so)

-- after it there is nothing yet
pub none_behind : (counts : List ℕ) (least site n : ℕ) → least ≤ site → site < MOST_SITES
    → drop least counts ≡ replicate (MOST_SITES - least) 0 → drop (site + 1) (set counts site n) ≡ replicate (MOST_SITES - (site + 1)) 0
none_behind counts least site n low near none =
    let sum : site + 1 ≡ least + (site + 1 - least) = omega arith in
    let rest : MOST_SITES - least - (site + 1 - least) ≡ MOST_SITES - (site + 1) = omega arith in
    drop-set-lt (site + 1) counts site n (omega arith)
    ∙ ap (λ k. drop k counts) sum ∙ sym (drop-drop (site + 1 - least) least counts)
    ∙ ap (drop (site + 1 - least)) none ∙ drop-replicate (site + 1 - least) (MOST_SITES - least) 0
    ∙ ap (λ k. replicate k 0) rest

-- all are read
pub all_read : (counts : List ℕ) (least : ℕ) → drop least counts ≡ replicate (MOST_SITES - least) 0
    → take least counts ++ replicate (MOST_SITES - least) 0 ≡ counts
all_read counts least none = ap (λ l. take least counts ++ l) (sym none) ∙ take-append-drop least counts

-- ---- read back

one_back : (i j n : ℕ) → i ≤ j → j < MOST_SITES → 0 < n → n < 2 ^ 32 → numbered_at i (numbered_json (j, n)) ≡ Some (j, n)
one_back i j n low near some small =
    rw (below j (2 ^ 8) (omega arith), below n (2 ^ 32) small, le-leb i j low, below j MOST_SITES near, le-leb 1 n (omega arith)) refl

-- the counts from site j on, after 0 for each site from i to j
pub numbered_back : (i j : ℕ) (ns : List ℕ) → i ≤ j → j + length ns ≡ MOST_SITES → Each (λ n. n < 2 ^ 32) ns
    → numbered_in i (items_of (map numbered_json (numbered_from j ns))) ≡ Some (replicate (j - i) 0 ++ ns)
numbered_back i j [] low full h =
    let last : MOST_SITES - i ≡ j - i = omega arith in
    ap (λ k. Some (replicate k 0)) last ∙ ap Some (sym (append-nil (replicate (j - i) 0)))
numbered_back i j (n ∷ ns) low full h = at (n == 0) refl (numbered_back i (j + 1) ns (omega arith) (omega arith) h.1)
    (numbered_back (j + 1) (j + 1) ns (omega arith) (omega arith) h.1)
  where
    later : Items
    later = items_of (map numbered_json (numbered_from (j + 1) ns))

    at : (b : Bool) → (n == 0) ≡ b → numbered_in i later ≡ Some (replicate (j + 1 - i) 0 ++ ns)
        → numbered_in (j + 1) later ≡ Some (replicate ((j + 1) - (j + 1)) 0 ++ ns)
        → numbered_in i (items_of (map numbered_json (if b then numbered_from (j + 1) ns else (j, n) ∷ numbered_from (j + 1) ns))) ≡ Some
        (replicate (j - i) 0 ++ n ∷ ns)
    at true q past behind =
        let zero : n ≡ 0 = eqb-true n 0 q in
        let more : j + 1 - i ≡ (j - i) + 1 = omega arith in
        past
        ∙ ap Some (ap (λ k. replicate k 0 ++ ns) more ∙ ap (λ l. l ++ ns) (sym (replicate_more (j - i) 0))
        ∙ append_assoc (replicate (j - i) 0) (0 ∷ []) ns ∙ ap (λ m. replicate (j - i) 0 ++ m ∷ ns) (sym zero))
    at false q past behind =
        let some : 0 < n = grind (arith, nat_tests) in
        let nothing : (j + 1) - (j + 1) ≡ 0 = omega arith in
        ap (option_and_then (λ (p : ℕ × ℕ). option_map (λ later. replicate (p.0 - i) 0 ++ p.1 ∷ later) (numbered_in (p.0 + 1) later)))
        (one_back i j n low (omega arith) some h.0)
        ∙ ap (option_map (λ later. replicate (j - i) 0 ++ n ∷ later)) (behind ∙ ap (λ k. Some (replicate k 0 ++ ns)) nothing)

-- ---- the text that is written for the counts of all sites is read as them

-- what holds of each item holds of each of the first ones
pub each_take : {A : Type 0} (P : A → Type 0) (k : ℕ) (xs : List A) → Each P xs → Each P (take k xs)
each_take P zero xs h = tt
each_take P (suc k) [] h = tt
each_take P (suc k) (x ∷ xs) h = (h.0, each_take P k xs h.1)

-- what holds of an item holds of each of its copies
pub each_replicate : {A : Type 0} (P : A → Type 0) (many : ℕ) (x : A) → P x → Each P (replicate many x)
each_replicate P zero x h = tt
each_replicate P (suc many) x h = (h, each_replicate P many x h)

-- ---- version 1

-- how many sites more there may be than version 1 has
abbrev further : ℕ
further = MOST_SITES - MOST_SITES_OF_VERSION_1

counts_back : (ns : List ℕ) → Each (λ n. n < 2 ^ 32) ns → counts_in (items_of (map number_json ns)) ≡ Some ns
counts_back [] h = refl
counts_back (n ∷ ns) h = rw (below n (2 ^ 32) h.0, counts_back ns h.1) refl

zeros_are : (ns : List ℕ) → Each (λ n. n ≡ 0) ns → ns ≡ replicate (length ns) 0
zeros_are [] h = refl
zeros_are (n ∷ ns) h = λ j. h.0 j ∷ zeros_are ns h.1 j

first_back : (ns : List ℕ) → length ns ≡ MOST_SITES → Each (λ n. n < 2 ^ 32) ns → Each (λ n. n ≡ 0) (drop MOST_SITES_OF_VERSION_1 ns)
    → option_map widened (counts_at (list_json number_json (take MOST_SITES_OF_VERSION_1 ns))) ≡ Some ns
first_back ns long h none =
    let first = take MOST_SITES_OF_VERSION_1 ns in
    let few : length first ≡ MOST_SITES_OF_VERSION_1 = length-take-le MOST_SITES_OF_VERSION_1 ns (omega arith) in
    let more : length (drop MOST_SITES_OF_VERSION_1 ns) ≡ further = length-drop MOST_SITES_OF_VERSION_1 ns
    ∙ (let e = long in omega arith) in
    let rest : drop MOST_SITES_OF_VERSION_1 ns ≡ replicate further 0 = zeros_are (drop MOST_SITES_OF_VERSION_1 ns) none
    ∙ ap (λ k. replicate k 0) more in
    let whole : first ++ replicate further 0 ≡ ns = ap (λ l. first ++ l) (sym rest) ∙ take-append-drop MOST_SITES_OF_VERSION_1 ns in
    rw (counts_back first (each_take (λ n. n < 2 ^ 32) MOST_SITES_OF_VERSION_1 ns h), equal (length first) MOST_SITES_OF_VERSION_1 few)
    (ap Some whole)

-- ---- either

-- the counts are read from what is written for them, in either version
pub blue_back : (version sites : ℕ) (ns : List ℕ) → IsVersion version sites → length ns ≡ MOST_SITES → Each (λ n. n < 2 ^ 32) ns
    → (version ≡ 1 → Each (λ n. n ≡ 0) (drop MOST_SITES_OF_VERSION_1 ns)) → blue_at version (blue_json version ns) ≡ Some ns
unfolding blue_at blue_json
blue_back version sites ns (inl one) long h none = subst (λ v. blue_at v (blue_json v ns) ≡ Some ns) (sym one.0)
    (first_back ns long h (none one.0))
blue_back version sites ns (inr two) long h none = subst (λ v. blue_at v (blue_json v ns) ≡ Some ns) (sym two)
    (numbered_back 0 0 ns (omega arith) (omega arith) h)

-- ---- what is read of version 1 in one pass

-- the widened counts are as many as there may be sites
pub widened_length : (ns : List ℕ) → length ns ≡ MOST_SITES_OF_VERSION_1 → length (widened ns) ≡ MOST_SITES
widened_length ns few = length-append ns (replicate further 0) ∙ (let e = length-replicate {A = ℕ} further 0 in omega arith)

-- and each fits if each of the first does
pub widened_fits : (ns : List ℕ) → Each (λ n. n < 2 ^ 32) ns → Each (λ n. n < 2 ^ 32) (widened ns)
widened_fits ns h = each_both (λ n. n < 2 ^ 32) ns (replicate further 0) h (each_replicate (λ n. n < 2 ^ 32) further 0 (omega arith))

-- and each of a further site is 0
pub widened_further : (ns : List ℕ) → length ns ≡ MOST_SITES_OF_VERSION_1 → Each (λ n. n ≡ 0) (drop MOST_SITES_OF_VERSION_1 (widened ns))
widened_further ns few = subst (Each (λ n. n ≡ 0)) (sym (drop_at ns (replicate further 0) MOST_SITES_OF_VERSION_1 few))
    (each_replicate (λ n. n ≡ 0) further 0 refl)

-- and in version 1 they are written as the first ones are
pub widened_json : (ns : List ℕ) → length ns ≡ MOST_SITES_OF_VERSION_1 → blue_json 1 (widened ns) ≡ list_json number_json ns
unfolding blue_json
widened_json ns few = ap (list_json number_json) (take_at ns (replicate further 0) MOST_SITES_OF_VERSION_1 few)

-- ---- the counts above 0, each after its site's number, read one by one from a text

numbered_append : (i : ℕ) (xs ys : List ℕ) → numbered_from i (xs ++ ys) ≡ numbered_from i xs ++ numbered_from (i + length xs) ys
numbered_append i [] ys = let same : i ≡ i + 0 = omega arith in ap (λ k. numbered_from k ys) same
numbered_append i (x ∷ xs) ys =
    let same : i + 1 + length xs ≡ i + suc (length xs) = omega arith in
    at (x == 0) (numbered_append (i + 1) xs ys ∙ ap (λ k. numbered_from (i + 1) xs ++ numbered_from k ys) same)
  where
    behind : List (ℕ × ℕ)
    behind = numbered_from (i + suc (length xs)) ys

    at : (b : Bool) → numbered_from (i + 1) (xs ++ ys) ≡ numbered_from (i + 1) xs ++ behind
        → (if b then numbered_from (i + 1) (xs ++ ys)
        else (i, x) ∷ numbered_from (i + 1) (xs ++ ys)) ≡ (if b then numbered_from (i + 1) xs
        else (i, x) ∷ numbered_from (i + 1) xs) ++ behind
    at true h = h
    at false h = ap (λ l. (i, x) ∷ l) h

numbered_zeros : (i many : ℕ) → numbered_from i (replicate many 0) ≡ []
numbered_zeros i zero = refl
numbered_zeros i (suc many) = numbered_zeros (i + 1) many

-- zeros after add nothing
numbered_behind : (i : ℕ) (xs : List ℕ) (many : ℕ) → numbered_from i (xs ++ replicate many 0) ≡ numbered_from i xs
numbered_behind i xs many = numbered_append i xs (replicate many 0)
    ∙ ap (λ l. numbered_from i xs ++ l) (numbered_zeros (i + length xs) many) ∙ append-nil (numbered_from i xs)

one_numbered : (i n : ℕ) → 0 < n → numbered_from i (n ∷ []) ≡ (i, n) ∷ []
one_numbered i n some = let not : (n == 0) ≡ false = grind (arith, nat_tests) in ap (λ b. if b then [] else (i, n) ∷ []) not

-- one more
pub numbered_more : (counts : List ℕ) (least site n : ℕ) → length counts ≡ MOST_SITES → least ≤ site → site < MOST_SITES → 0 < n
    → drop least counts ≡ replicate (MOST_SITES - least) 0
    → numbered_from 0 (take (site + 1) (set counts site n)) ≡ numbered_from 0 (take least counts) ++ (site, n) ∷ []
numbered_more counts least site n long low near some none =
    let begun = take least counts in
    let zeros : List ℕ = replicate (site - least) 0 in
    let few : length begun ≡ least = length-take-le least counts (omega arith) in
    let many : length zeros ≡ site - least = length-replicate {A = ℕ} (site - least) 0 in
    let here : 0 + length (begun ++ zeros) ≡ site = let e = length-append begun zeros in omega arith in
    ap (numbered_from 0) (one_further counts least site n long low near none)
    ∙ numbered_append 0 (begun ++ zeros) (n ∷ [])
    ∙ ap₂ (λ a b. a ++ b) (numbered_behind 0 begun (site - least)) (ap (λ k. numbered_from k (n ∷ [])) here ∙ one_numbered site n some)

-- all
pub numbered_all : (counts : List ℕ) (least : ℕ) → drop least counts ≡ replicate (MOST_SITES - least) 0
    → numbered_from 0 (take least counts) ≡ numbered_from 0 counts
numbered_all counts least none = sym (numbered_behind 0 (take least counts) (MOST_SITES - least))
    ∙ ap (numbered_from 0) (all_read counts least none)

-- the counts fit
pub fit_more : (P : ℕ → Type 0) (counts : List ℕ) (least site n : ℕ) → length counts ≡ MOST_SITES → least ≤ site → site < MOST_SITES
    → drop least counts ≡ replicate (MOST_SITES - least) 0 → P 0 → P n → Each P (take least counts)
    → Each P (take (site + 1) (set counts site n))
fit_more P counts least site n long low near none o p h =
    each_more P (take least counts ++ replicate (site - least) 0) n _
    (one_further counts least site n long low near none)
    (each_both P (take least counts) (replicate (site - least) 0) h (each_replicate P (site - least) 0 o)) p

-- what holds of 0 and of the counts so far holds of all, if all others are 0
pub fit_all : (P : ℕ → Type 0) (counts : List ℕ) (least : ℕ) → drop least counts ≡ replicate (MOST_SITES - least) 0 → P 0
    → Each P (take least counts) → Each P counts
fit_all P counts least none o h = subst (Each P) (all_read counts least none)
    (each_both P (take least counts) (replicate (MOST_SITES - least) 0) h (each_replicate P (MOST_SITES - least) 0 o))

-- ---- how many counts a list gives

-- the list of counts, if there is one, is as long as the list
counts_length : (vs : List Value) → IfSome (counts_in (items_view vs)) (λ ns. length ns ≡ length vs)
counts_length [] = refl
counts_length (v ∷ vs) = fits_next (λ ns. length ns ≡ suc (length vs)) _ (number_below (2 ^ 32) (view v)) (λ n.
    fits_map (λ ms. length ms ≡ length vs) _ _ (counts_in (items_view vs)) (counts_length vs) (λ ms long. ap suc long))

-- a list of another length gives none
pub other_length : (vs : List Value) (many : ℕ) → (length vs ≡ many → ⊥)
    → option_and_then (λ ns. if length ns == many then Some ns else None) (counts_in (items_view vs)) ≡ None
other_length vs many h = (elim (counts_in (items_view vs)) as (λ o. IfSome o (λ ns. length ns ≡ length vs)
    → option_and_then (λ ns. if length ns == many then Some ns else None) o ≡ None) [
      | None ↦ λ long. refl
      | Some ns ↦ λ long. rw (ne_eqb (length ns) many (λ e. h (sym long ∙ e))) refl
    ]) (counts_length vs)
