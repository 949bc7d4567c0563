-- Lists of links after a change.
use Rattle.rb_ledger.proofs.Words.{◌≡◌, ◌⊎◌, ℕ, zero, suc, ◌+◌, ◌-◌, ◌<◌, ◌≤◌, List, [], ◌∷◌, ◌++◌, length, map, take}
use Rattle.rb_ledger.proofs.Words.{get_or, set, refl, ap, sym, ◌∙◌, subst, arith, inl, inr, Some, Option, option_map}
use Rattle.rb_ledger.proofs.Words.{option_to_list, slice_get, Bool, false, get_or_push, get_or_append_left, length_push}
use Rattle.rb_ledger.proofs.Words.{length-map, map_push, map-set, take_at, slice_get-map, take-append_seam}
use Rattle.rb_ledger.proofs.Words.{map-set_same, Links, OwnLink, LinkTable, both_links, kept_link, marked_at, marks}
use Rattle.rb_ledger.proofs.Words.{own_link, second_balance, slice_get-get_or}
use Rattle.rb_ledger.specs.LinkLists.{AreNumbered}

-- no number is above the last one
pub none_above : (k n : ℕ) (os : List OwnLink) → AreNumbered k os n → k ≤ n
unfolding AreNumbered
none_above k n [] are = omega (arith, are)
none_above k n (o ∷ os) (inl (none, are)) = none_above k n os are
none_above k n (o ∷ os) (inr (one, are)) = omega (arith, none_above (k + 1) n os are)

-- there are no more numbers than operations
pub few_numbers : (k n : ℕ) (os : List OwnLink) → AreNumbered k os n → n ≤ k + length os
unfolding AreNumbered
few_numbers k n [] are = omega (arith, are)
few_numbers k n (o ∷ os) (inl (none, are)) = omega (arith, few_numbers k n os are)
few_numbers k n (o ∷ os) (inr (one, are)) = omega (arith, few_numbers (k + 1) n os are)

-- one more operation without a second link
pub one_without : (k n : ℕ) (os : List OwnLink) (o : OwnLink) → AreNumbered k os n → o.second ≡ 0 → AreNumbered k (os ++ o ∷ []) n
unfolding AreNumbered
one_without k n [] o are none = inl (none, are)
one_without k n (p ∷ os) o (inl (is, are)) none = inl (is, one_without k n os o are none)
one_without k n (p ∷ os) o (inr (is, are)) none = inr (is, one_without (k + 1) n os o are none)

-- one more operation with a second link
pub one_with : (k n : ℕ) (os : List OwnLink) (o : OwnLink) → AreNumbered k os n → o.second ≡ n + 1 → AreNumbered k (os ++ o ∷ []) (n + 1)
unfolding AreNumbered
one_with k n [] o are one = inr (one ∙ ap (λ i. i + 1) (sym are), ap (λ i. i + 1) are)
one_with k n (p ∷ os) o (inl (is, are)) one = inl (is, one_with k n os o are one)
one_with k n (p ∷ os) o (inr (is, are)) one = inr (is, one_with (k + 1) n os o are one)

-- without the last operation the numbers end before its own, or as they did
pub all_but_last : (k n : ℕ) (os : List OwnLink) (o : OwnLink) → AreNumbered k (os ++ o ∷ []) n →
    ((o.second ≡ 0) × AreNumbered k os n) ⊎ ((m : ℕ) × (o.second ≡ m + 1) × (n ≡ m + 1) × AreNumbered k os m)
unfolding AreNumbered
all_but_last k n [] o (inl (none, are)) = inl (none, are)
all_but_last k n [] o (inr (one, are)) = inr (k, one, sym are, refl)
all_but_last k n (p ∷ os) o (inl (is, are)) = elim (all_but_last k n os o are) [
  | inl e ↦ inl (e.0, inl (is, e.1))
  | inr e ↦ inr (e.0, e.1, e.2, inl (is, e.3))
]
all_but_last k n (p ∷ os) o (inr (is, are)) = elim (all_but_last (k + 1) n os o are) [
  | inl e ↦ inl (e.0, inr (is, e.1))
  | inr e ↦ inr (e.0, e.1, e.2, inr (is, e.3))
]

-- a number that isn't above the list's length has the same balance if the list is one longer
pub second_before : (ls : List ℕ) (l n : ℕ) → n ≤ length ls → second_balance (ls ++ l ∷ []) n ≡ second_balance ls n
second_before ls l zero few = refl
second_before ls l (suc i) few = get_or_append_left ls (l ∷ []) 0 i (omega (arith, few))

-- the last number's balance
pub second_last : (ls : List ℕ) (l n : ℕ) → n ≡ length ls + 1 → second_balance (ls ++ l ∷ []) n ≡ l
second_last ls l zero is = absurd (omega (arith, is))
second_last ls l (suc i) is = get_or_push ls l 0 i (omega (arith, is))

-- both links by the balance on the second account
abbrev links_by : OwnLink → ℕ → Links
links_by o n = record { own = own_link o; account = o.account; other = record { balance = n; earlier = o.other_earlier } }

-- one more balance on a second account changes no links of operations that are there
pub same_links : (k : ℕ) (os : List OwnLink) (ls : List ℕ) (l : ℕ) → AreNumbered k os (length ls) →
    map (both_links (ls ++ l ∷ [])) os ≡ map (both_links ls) os
unfolding AreNumbered
same_links k [] ls l are = refl
same_links k (o ∷ os) ls l (inl (none, are)) =
    ap (λ n. links_by o n ∷ map (both_links (ls ++ l ∷ [])) os)
    (second_before ls l o.second (omega (arith, none)))
    ∙ ap (λ xs. both_links ls o ∷ xs) (same_links k os ls l are)
same_links k (o ∷ os) ls l (inr (one, are)) =
    ap (λ n. links_by o n ∷ map (both_links (ls ++ l ∷ [])) os)
    (second_before ls l o.second (omega (arith, one, none_above (k + 1) (length ls) os are)))
    ∙ ap (λ xs. both_links ls o ∷ xs) (same_links (k + 1) os ls l are)

-- the links of an operation more that is on one account
pub pushed_one : (os ps : List OwnLink) (ls : List ℕ) (o : OwnLink) (l : Links) → ps ≡ os ++ o ∷ [] → both_links ls o ≡ l →
    map (both_links ls) ps ≡ map (both_links ls) os ++ l ∷ []
pushed_one os ps ls o l pushed both = ap (map (both_links ls)) pushed ∙ map_push (both_links ls) os o
    ∙ ap (λ x. map (both_links ls) os ++ x ∷ []) both

-- the links of an operation more that is on two accounts
pub pushed_two : (os ps : List OwnLink) (ls ms : List ℕ) (o : OwnLink) (x : ℕ) (l : Links) → AreNumbered 0 os (length ls) →
    ps ≡ os ++ o ∷ [] → ms ≡ ls ++ x ∷ [] → both_links ms o ≡ l → map (both_links ms) ps ≡ map (both_links ls) os ++ l ∷ []
pushed_two os ps ls ms o x l are pushed longer both = pushed_one os ps ms o l pushed both
    ∙ ap (λ xs. xs ++ l ∷ []) (ap (λ ns. map (both_links ns) os) longer ∙ same_links 0 os ls x are)

-- without the last operation, which is on one account
pub popped_one : (os ps : List OwnLink) (n : ℕ) (o : OwnLink) → AreNumbered 0 os n → os ≡ ps ++ o ∷ [] → o.second ≡ 0 → AreNumbered 0 ps n
popped_one os ps n o are is none = elim (all_but_last 0 n ps o (subst (λ qs. AreNumbered 0 qs n) is are)) [
  | inl e ↦ e.1
  | inr e ↦ absurd (omega (arith, e.1, none))
]

-- the last operation, which is on two accounts, has the last number
pub last_number : (os ps : List OwnLink) (n : ℕ) (o : OwnLink) → AreNumbered 0 os n → os ≡ ps ++ o ∷ [] → 0 < o.second →
    (m : ℕ) × (n ≡ m + 1) × AreNumbered 0 ps m
last_number os ps n o are is some = elim (all_but_last 0 n ps o (subst (λ qs. AreNumbered 0 qs n) is are)) [
  | inl e ↦ absurd (omega (arith, e.0, some))
  | inr e ↦ (e.0, e.2, e.3)
]

-- what a pop leaves of a list that isn't empty, and what it takes
pub popped : (ls ms : List ℕ) (n : ℕ) (r : Option ℕ) → n ≡ length ls → 0 < length ls → ls ≡ ms ++ option_to_list r →
    ((d : ℕ) → 0 < n → r ≡ Some (get_or ls (n - 1) d)) → (x : ℕ) × (ls ≡ ms ++ x ∷ [])
popped ls ms n r count some items value = (
  get_or ls (n - 1) 0,
  items ∙ ap (λ o. ms ++ option_to_list o) (value 0 (omega (arith, count, some))),
)

-- without the last operation, which is on two accounts
pub popped_two : (os ps : List OwnLink) (ls ms : List ℕ) (o : OwnLink) (n : ℕ) (r : Option ℕ) → AreNumbered 0 os (length ls) →
    os ≡ ps ++ o ∷ [] → 0 < o.second → n ≡ length ls → ls ≡ ms ++ option_to_list r →
    ((d : ℕ) → 0 < n → r ≡ Some (get_or ls (n - 1) d)) → (x : ℕ) × (ls ≡ ms ++ x ∷ []) × AreNumbered 0 ps (length ms)
popped_two os ps ls ms o n r are is some count items value =
    let (m, last, rest) = last_number os ps (length ls) o are is some in
    let (x, left) = popped ls ms n r count (omega (arith, last)) items value in
    let same : m ≡ length ms = omega (arith, last, ap length left, length_push ms x) in
    (x, left, subst (AreNumbered 0 ps) same rest)

-- the links but for those of the last operation
pub front_links : (os ps : List OwnLink) (ls : List ℕ) (o : OwnLink) → os ≡ ps ++ o ∷ [] →
    take (length (map (both_links ls) os) - 1) (map (both_links ls) os) ≡ map (both_links ls) ps
front_links os ps ls o is =
    let xs = map (both_links ls) ps in
    let all : map (both_links ls) os ≡ xs ++ both_links ls o ∷ [] = pushed_one ps os ls o (both_links ls o) is refl in
    ap (λ ys. take (length ys - 1) ys) all
    ∙ ap (λ n. take n (xs ++ both_links ls o ∷ [])) (omega (arith, length_push xs (both_links ls o)))
    ∙ take-append_seam xs (both_links ls o ∷ [])

-- the links that are seen after a pop
pub seen_popped : (os ps : List OwnLink) (ls ms : List ℕ) (o : OwnLink) (n k : ℕ) (r : Option ℕ) (t : LinkTable) →
    AreNumbered 0 os (length ls) → record { items = map (both_links ls) os; cancelled = marks os; limit = k } ≡ t
    → os ≡ ps ++ o ∷ [] → 0 < o.second →
    n ≡ length ls → ls ≡ ms ++ option_to_list r → ((d : ℕ) → 0 < n → r ≡ Some (get_or ls (n - 1) d)) →
    map (both_links ms) ps ≡ take (length t.items - 1) t.items
seen_popped os ps ls ms o n k r t are view is some count items value =
    let (x, left, rest) = popped_two os ps ls ms o n r are is some count items value in
    sym (same_links 0 ps ms x rest) ∙ ap (λ xs. map (both_links xs) ps) (sym left) ∙ sym (front_links os ps ls o is)
    ∙ ap (λ (s : LinkTable). take (length s.items - 1) s.items) view

-- no operations have no numbers
pub none_numbered : (os : List OwnLink) (ls : List ℕ) → os ≡ [] → ls ≡ [] → AreNumbered 0 os (length ls)
unfolding AreNumbered
none_numbered os ls empty none = subst (λ qs. AreNumbered 0 qs (length ls)) (sym empty) (sym (ap length none))

-- one more operation on one account
pub pushed_without : (os ps : List OwnLink) (n : ℕ) (o : OwnLink) → AreNumbered 0 os n → ps ≡ os ++ o ∷ [] → o.second ≡ 0 →
    AreNumbered 0 ps n
pushed_without os ps n o are pushed none = subst (λ qs. AreNumbered 0 qs n) (sym pushed) (one_without 0 n os o are none)

-- one more operation on two accounts
pub pushed_with : (os ps : List OwnLink) (ls ms : List ℕ) (o : OwnLink) (l : ℕ) → AreNumbered 0 os (length ls) → ps ≡ os ++ o ∷ [] →
    ms ≡ ls ++ l ∷ [] → o.second ≡ length ls + 1 → AreNumbered 0 ps (length ms)
pushed_with os ps ls ms o l are pushed longer one = subst (λ qs. AreNumbered 0 qs (length ms)) (sym pushed)
    (subst (AreNumbered 0 (os ++ o ∷ [])) (let e : length ls + 1 ≡ length ms = omega (arith, ap length longer, length_push ls l) in e)
    (one_with 0 (length ls) os o are one))

-- there are no more balances on second accounts than operations that are seen
pub few_seen : (os : List OwnLink) (ls : List ℕ) (k : ℕ) (t : LinkTable) → AreNumbered 0 os (length ls) →
    record { items = map (both_links ls) os; cancelled = marks os; limit = k } ≡ t → length ls ≤ length t.items
few_seen os ls k t are view = omega (
  arith,
  few_numbers 0 (length ls) os are,
  length-map os (both_links ls),
  ap (λ (s : LinkTable). length s.items) view,
)

-- both links of one more operation on two accounts
pub both_pushed : (ls ms : List ℕ) (l : Links) (n : ℕ) → ms ≡ ls ++ l.other.balance ∷ [] → n ≡ length ls + 1 →
    both_links ms (kept_link l n) ≡ l
both_pushed ls ms l n longer is = ap (λ xs. both_links xs (kept_link l n)) longer
    ∙ ap (links_by (kept_link l n)) (second_last ls l.other.balance n is)

-- both links of the operation at an index
pub link_seen : (ls : List ℕ) (os : List OwnLink) (i : ℕ) (o : OwnLink) (n : ℕ) (t : LinkTable) →
    record { items = map (both_links ls) os; cancelled = marks os; limit = n } ≡ t → i < length t.items → o ≡ get_or os i o
    → slice_get t.items i ≡ Some (both_links ls o)
link_seen ls os i o n t seen near is =
    let low : i < length os = omega (arith, near, ap (λ (t : LinkTable). length t.items) seen, length-map os (both_links ls)) in
    ap (λ (t : LinkTable). slice_get t.items i) (sym seen) ∙ slice_get-map (both_links ls) os i
    ∙ ap (option_map (both_links ls)) (slice_get-get_or os i o low ∙ ap Some (sym is))

-- ---- marks

-- another mark of an operation
abbrev pub marked : Bool → OwnLink → OwnLink
marked b o = record {
  balance = o.balance;
  earlier = o.earlier;
  other_earlier = o.other_earlier;
  second = o.second;
  account = o.account;
  cancelled = b;
}

-- another mark changes no numbers
pub numbered_marked : (k n i : ℕ) (os : List OwnLink) (o : OwnLink) (b : Bool) → AreNumbered k os n → i < length os →
    o ≡ get_or os i o → AreNumbered k (set os i (marked b o)) n
unfolding AreNumbered
numbered_marked k n i [] o b are near is = absurd (omega arith)
numbered_marked k n zero (p ∷ os) o b (inl (none, are)) near is = inl (ap (λ (o : OwnLink). o.second) is ∙ none, are)
numbered_marked k n zero (p ∷ os) o b (inr (one, are)) near is = inr (ap (λ (o : OwnLink). o.second) is ∙ one, are)
numbered_marked k n (suc i) (p ∷ os) o b (inl (none, are)) near is = inl (none, numbered_marked k n i os o b are (omega arith) is)
numbered_marked k n (suc i) (p ∷ os) o b (inr (one, are)) near is = inr (one, numbered_marked (k + 1) n i os o b are (omega arith) is)

-- and no links
pub links_marked : (ls : List ℕ) (os : List OwnLink) (i : ℕ) (o : OwnLink) (b : Bool) → o ≡ get_or os i o →
    map (both_links ls) (set os i (marked b o)) ≡ map (both_links ls) os
links_marked ls os i o b is = map-set_same (both_links ls) os i (marked b o) o (ap (both_links ls) is)

-- the marks are then others at its position
pub marks_marked : (os : List OwnLink) (p i : ℕ) (o : OwnLink) (b : Bool) → 0 < p → i ≡ p - 1 →
    marks (set os i (marked b o)) ≡ marked_at p b (marks os)
marks_marked os zero i o b some is = absurd (omega arith)
marks_marked os (suc p) i o b some is = map-set (λ (o : OwnLink). o.cancelled) os i (marked b o)
    ∙ ap (λ n. set (marks os) n b) (let e : i ≡ p = omega arith in e)

-- the mark that is read
pub mark_read : (os : List OwnLink) (i : ℕ) (o : OwnLink) → i < length os → o ≡ get_or os i o → o.cancelled ≡ get_or (marks os) i false
mark_read [] i o near is = absurd (omega arith)
mark_read (p ∷ os) zero o near is = ap (λ (o : OwnLink). o.cancelled) is
mark_read (p ∷ os) (suc i) o near is = mark_read os i o (omega arith) is

-- the marks of an operation more, which isn't cancelled
pub marks_pushed : (os ps : List OwnLink) (o : OwnLink) → ps ≡ os ++ o ∷ [] → o.cancelled ≡ false → marks ps ≡ marks os ++ false ∷ []
marks_pushed os ps o pushed free = ap marks pushed ∙ map_push (λ (o : OwnLink). o.cancelled) os o
    ∙ ap (λ b. marks os ++ b ∷ []) free

-- the marks but for that of the last operation
pub front_marks : (os ps : List OwnLink) (o : OwnLink) (ls : List ℕ) (k : ℕ) (t : LinkTable) → os ≡ ps ++ o ∷ [] →
    record { items = map (both_links ls) os; cancelled = marks os; limit = k } ≡ t → marks ps ≡ take (length t.items - 1) t.cancelled
front_marks os ps o ls k t is view =
    let all : marks os ≡ marks ps ++ o.cancelled ∷ [] = ap marks is ∙ map_push (λ (o : OwnLink). o.cancelled) ps o in
    let count : length (marks ps) ≡ length (map (both_links ls) os) - 1 = omega (
      arith,
      length-map ps (λ (o : OwnLink). o.cancelled),
      length-map os (both_links ls),
      ap length is,
      length_push ps o,
    ) in
    sym (take_at (marks ps) (o.cancelled ∷ []) _ count) ∙ ap (take (length (map (both_links ls) os) - 1)) (sym all)
    ∙ ap (λ (s : LinkTable). take (length s.items - 1) s.cancelled) view
