-- The checkpoints of a list, from one list to the next, and what is read of them.
use Rattle.rb_ledger.proofs.Words.{◌≡◌, ℕ, zero, suc, ◌+◌, ◌-◌, ◌*◌, ◌<◌, ◌≤◌, List, [], ◌∷◌, ◌++◌, length, take, map}
use Rattle.rb_ledger.proofs.Words.{refl, ap, sym, ◌∙◌, subst, arith, ◌⊎◌, inl, inr, Some, None, length-append}
use Rattle.rb_ledger.proofs.Words.{length-take-le, slice_get, Option, option_map, length-map, take-append-le, take_all}
use Rattle.rb_ledger.proofs.Words.{slice_get-map, slice_get_within, Settings, IsConfigured, Place, Shadow, Checkpoints}
use Rattle.rb_ledger.proofs.Words.{Head, AreCheckpoints, as_of, AreHeads, IsOn, IsNoneAfter, IsLast}
use Rattle.rb_ledger.proofs.Public.Fronts
use Rattle.rb_ledger.proofs.Public.OnAccount

-- ---- rows

-- the whole row of an entry is among whole rows
pub whole_row : (k n w i : ℕ) → k * w + i < n * w → k * w + w ≤ n * w
whole_row zero zero w i h = absurd (omega arith)
whole_row zero (suc n) w i h = omega arith
whole_row (suc k) zero w i h = absurd (omega arith)
whole_row (suc k) (suc n) w i h = omega (arith, whole_row k n w i (omega arith))

-- an entry of the row after whole rows is in this row
pub row_behind : (k n w i : ℕ) → i < w → n * w ≤ k * w + i → k * w + i < n * w + w → k * w ≡ n * w
row_behind zero zero w i near from below = refl
row_behind zero (suc n) w i near from below = absurd (omega arith)
row_behind (suc k) zero w i near from below = absurd (omega arith)
row_behind (suc k) (suc n) w i near from below = omega (arith, row_behind k n w i near (omega arith) (omega arith))

-- if there is a whole row, there is one row less without it
pub row_less : (n w : ℕ) → 0 < n * w → (j : ℕ) × (n * w ≡ j * w + w)
row_less zero w some = absurd (omega arith)
row_less (suc j) w some = (j, omega arith)

-- an item of one of two lists, one after the other
pub get_joined : {X : Type 0} (xs ys : List X) (i : ℕ) (z : X) → slice_get (xs ++ ys) i ≡ Some z →
    ((i < length xs) × (slice_get xs i ≡ Some z)) ⊎ ((length xs ≤ i) × (slice_get ys (i - length xs) ≡ Some z))
get_joined [] ys i z e = inr (omega arith, ap (slice_get ys) (let a : i - 0 ≡ i = omega arith in a) ∙ e)
get_joined (x ∷ xs) ys zero z e = inl (omega arith, e)
get_joined (x ∷ xs) ys (suc i) z e = elim (get_joined xs ys i z e) [
  | inl k ↦ inl (omega (arith, k.0), k.1)
  | inr k ↦ inr (omega (arith, k.0), ap (slice_get ys) (let a : suc i - suc (length xs) ≡ i - length xs = omega arith in a) ∙ k.1)
]

-- ---- from one list to the next

-- there are none of no operations
pub none : (s : Settings) (c : Checkpoints) → IsConfigured s → c.lasts.items ≡ [] → c.accounts ≡ length s.starts →
    c.due ≡ as_of c.accounts → AreCheckpoints s [] c
none s c configured empty accounts due =
    let some : 1 ≤ length s.starts = omega (arith, configured.some_accounts, configured.starts_of_all) in
    let count : length c.lasts.items ≡ 0 * c.accounts = omega (arith, ap length empty) in
    record {
      accounts = accounts;
      rows = (0, count);
      due = omega (arith, due, ap length empty);
      within = omega (arith, ap length empty);
      next = omega (arith, due, accounts, some);
      each = λ k a p near read. absurd (omega (arith, slice_get_within c.lasts.items (k * c.accounts + a.0) p read, ap length empty));
    }

-- they are what they were if nothing else is new
pub moved : (s t : Settings) (us vs : List Shadow) (c d : Checkpoints) → AreCheckpoints s us c → t ≡ s → vs ≡ us →
    d.lasts.items ≡ c.lasts.items → d.accounts ≡ c.accounts → d.due ≡ c.due → AreCheckpoints t vs d
moved s t us vs c d are es eus lasts accounts due =
    subst (λ t. AreCheckpoints t vs d) (sym es) (subst (λ ws. AreCheckpoints s ws d) (sym eus) (record {
      accounts = accounts ∙ are.accounts;
      rows = (are.rows.0, ap length lasts ∙ are.rows.1 ∙ ap (λ w. are.rows.0 * w) (sym accounts));
      due = omega (arith, due, are.due, accounts, ap length lasts);
      within = omega (arith, are.within, ap length lasts);
      next = omega (arith, are.next, due);
      each = λ k a p near read. subst (λ w. IsLast (take (as_of (k * w + w)) us) a p) (sym accounts)
          (are.each k a p (omega (arith, near, accounts)) (ap (λ xs. slice_get xs (k * c.accounts + a.0)) (sym lasts)
          ∙ ap (λ w. slice_get d.lasts.items (k * w + a.0)) (sym accounts) ∙ read));
    }))

-- a row that is there is as of operations that are there
pub row_there : (s : Settings) (us : List Shadow) (c : Checkpoints) (k i : ℕ) → AreCheckpoints s us c →
    k * c.accounts + i < length c.lasts.items → as_of (k * c.accounts + c.accounts) ≤ length us
row_there s us c k i are near =
    let (n, count) = are.rows in
    omega (arith, count, are.within, whole_row k n c.accounts i (omega (arith, near, count)))

-- with one more operation that completes no row
pub push_none : (s : Settings) (us : List Shadow) (h : Shadow) (c : Checkpoints) → AreCheckpoints s us c → (length us + 1 ≡ c.due → ⊥) →
    AreCheckpoints s (us ++ h ∷ []) c
push_none s us h c are short = record {
  accounts = are.accounts;
  rows = are.rows;
  due = are.due;
  within = omega (arith, are.within, length-append us (h ∷ []));
  next = omega (arith, are.next, short, length-append us (h ∷ []));
  each = λ k a p near read. subst (λ vs. IsLast vs a p) (sym (take-append-le _ us (h ∷ [])
      (row_there s us c k a.0 are (slice_get_within c.lasts.items (k * c.accounts + a.0) p read)))) (are.each k a p near read);
}

-- with one more operation that completes a row
pub push_row : (s : Settings) (us : List Shadow) (h : Shadow) (c d : Checkpoints) (hs : List Head) → IsConfigured s → AreCheckpoints s us c
    → length us + 1 ≡ c.due → AreHeads s (us ++ h ∷ []) hs → d.lasts.items ≡ c.lasts.items ++ map (λ (h : Head). h.last) hs →
    d.accounts ≡ c.accounts → d.due ≡ c.due + as_of c.accounts → AreCheckpoints s (us ++ h ∷ []) d
push_row s us h c d hs configured are full heads lasts accounts due =
    let some : 1 ≤ length s.starts = omega (arith, configured.some_accounts, configured.starts_of_all) in
    let longer : length (us ++ h ∷ []) ≡ length us + 1 = length-append us (h ∷ []) in
    let count : length d.lasts.items ≡ length c.lasts.items + c.accounts =
    omega (
      arith,
      ap length lasts,
      length-append c.lasts.items (map (λ (h : Head). h.last) hs),
      length-map hs (λ (h : Head). h.last),
      heads.count,
      are.accounts,
    ) in
    let (n, whole) = are.rows in
    let more : suc n * c.accounts ≡ n * c.accounts + c.accounts = omega arith in
    record {
      accounts = accounts ∙ are.accounts;
      rows = (suc n, count ∙ ap (λ m. m + c.accounts) whole ∙ sym more ∙ ap (λ w. suc n * w) (sym accounts));
      due = omega (arith, due, are.due, count, accounts);
      within = omega (arith, are.due, full, count, longer);
      next = omega (arith, due, full, longer, are.accounts, some);
      each = λ k a p near read. subst (λ w. IsLast (take (as_of (k * w + w)) (us ++ h ∷ [])) a p) (sym accounts)
          (here k a p (omega (arith, near, accounts)) (get_joined c.lasts.items (map (λ (h : Head). h.last) hs) _ p
          (ap (λ xs. slice_get xs (k * c.accounts + a.0)) (sym lasts)
          ∙ ap (λ w. slice_get d.lasts.items (k * w + a.0)) (sym accounts) ∙ read)));
    }
  where
    of_head : (a : Place) (p : ℕ) (o : Option Head) → slice_get hs a.0 ≡ o → option_map (λ (h : Head). h.last) o ≡ Some p →
        IsLast (us ++ h ∷ []) a p
    of_head a p None e is = cc
    of_head a p (Some head) e is = let same : head.last ≡ p = cc in subst (IsLast (us ++ h ∷ []) a) same (heads.each a head e).last

    here : (k : ℕ) (a : Place) (p : ℕ) → a.0 < c.accounts →
        ((k * c.accounts + a.0 < length c.lasts.items) × (slice_get c.lasts.items (k * c.accounts + a.0) ≡ Some p))
        ⊎ ((length c.lasts.items ≤ k * c.accounts + a.0)
        × (slice_get (map (λ (h : Head). h.last) hs) (k * c.accounts + a.0 - length c.lasts.items) ≡ Some p)) →
        IsLast (take (as_of (k * c.accounts + c.accounts)) (us ++ h ∷ [])) a p
    here k a p near (inl (low, read)) = subst (λ vs. IsLast vs a p) (sym (take-append-le _ us (h ∷ []) (row_there s us c k a.0 are low)))
        (are.each k a p near read)
    here k a p near (inr (high, read)) =
        let (n, whole) = are.rows in
        let below = slice_get_within (map (λ (h : Head). h.last) hs) (k * c.accounts + a.0 - length c.lasts.items) p read in
        let at : k * c.accounts ≡ n * c.accounts = row_behind k n c.accounts a.0 near (omega (arith, whole, high)) (omega (
          arith,
          whole,
          high,
          below,
          length-map hs (λ (h : Head). h.last),
          heads.count,
          are.accounts,
        )) in
        let place : k * c.accounts + a.0 - length c.lasts.items ≡ a.0 = omega (arith, at, whole) in
        let end : as_of (k * c.accounts + c.accounts) ≡ length (us ++ h ∷ []) =
        omega (arith, at, whole, full, are.due, length-append us (h ∷ [])) in
        subst (λ vs. IsLast vs a p) (sym (take_all _ (us ++ h ∷ []) (omega (arith, end))))
        (of_head a p (slice_get hs a.0) refl (sym (slice_get-map (λ (h : Head). h.last) hs a.0)
        ∙ ap (slice_get (map (λ (h : Head). h.last) hs)) (sym place) ∙ read))

-- without the last operation, which completed no row
pub pop_none : (s : Settings) (us : List Shadow) (h : Shadow) (c : Checkpoints) → AreCheckpoints s (us ++ h ∷ []) c →
    (length us + 1 ≡ c.due - as_of c.accounts → ⊥) → AreCheckpoints s us c
pop_none s us h c are open_row =
    let longer : length (us ++ h ∷ []) ≡ length us + 1 = length-append us (h ∷ []) in
    let within : as_of (length c.lasts.items) ≤ length us = omega (arith, are.within, are.due, longer, open_row) in
    let (n, whole) = are.rows in
    record {
      accounts = are.accounts;
      rows = are.rows;
      due = are.due;
      within = within;
      next = omega (arith, are.next, longer);
      each = λ k a p near read. subst (λ vs. IsLast vs a p) (take-append-le _ us (h ∷ []) (omega (
        arith,
        within,
        whole,
        whole_row k n c.accounts a.0 (omega (arith, whole, slice_get_within c.lasts.items (k * c.accounts + a.0) p read)),
      ))) (are.each k a p near read);
    }

-- without the last operation, which completed a row
pub pop_row : (s : Settings) (us : List Shadow) (h : Shadow) (c d : Checkpoints) → IsConfigured s → AreCheckpoints s (us ++ h ∷ []) c →
    length us + 1 ≡ c.due - as_of c.accounts → d.lasts.items ≡ take (length c.lasts.items - c.accounts) c.lasts.items →
    d.accounts ≡ c.accounts → d.due ≡ c.due - as_of c.accounts → AreCheckpoints s us d
pop_row s us h c d configured are full lasts accounts due =
    let some : 1 ≤ length s.starts = omega (arith, configured.some_accounts, configured.starts_of_all) in
    let (n, whole) = are.rows in
    let (j, less) = row_less n c.accounts (omega (arith, whole, full, are.due)) in
    let count : length d.lasts.items ≡ j * c.accounts =
    omega (arith, ap length lasts, length-take-le (length c.lasts.items - c.accounts) c.lasts.items (omega arith), whole, less) in
    let within : as_of (length d.lasts.items) ≤ length us = omega (arith, full, are.due, count, whole, less, are.accounts, some) in
    record {
      accounts = accounts ∙ are.accounts;
      rows = (j, count ∙ ap (λ w. j * w) (sym accounts));
      due = omega (arith, due, are.due, count, whole, less, accounts);
      within = within;
      next = omega (arith, due, full);
      each = λ k a p near read. subst (λ w. IsLast (take (as_of (k * w + w)) us) a p) (sym accounts)
          (here k a p (omega (arith, near, accounts)) j count within (ap (λ xs. slice_get xs (k * c.accounts + a.0)) (sym lasts)
          ∙ ap (λ w. slice_get d.lasts.items (k * w + a.0)) (sym accounts) ∙ read));
    }
  where
    here : (k : ℕ) (a : Place) (p : ℕ) → a.0 < c.accounts → (j : ℕ) → length d.lasts.items ≡ j * c.accounts →
        as_of (length d.lasts.items) ≤ length us →
        slice_get (take (length c.lasts.items - c.accounts) c.lasts.items) (k * c.accounts + a.0) ≡ Some p →
        IsLast (take (as_of (k * c.accounts + c.accounts)) us) a p
    here k a p near j count within read =
        let there = slice_get_within (take (length c.lasts.items - c.accounts) c.lasts.items) (k * c.accounts + a.0) p read in
        let below : k * c.accounts + a.0 < length d.lasts.items = omega (arith, ap length lasts, there) in
        subst (λ vs. IsLast vs a p) (take-append-le _ us (h ∷ []) (omega (
          arith,
          within,
          count,
          whole_row k j c.accounts a.0 (omega (arith, below, count)),
        )))
        (are.each k a p near (Fronts.get_take _ c.lasts.items _ p read).1)

-- ---- what is read of them

-- where a search within some operations may start
pub start : (s : Settings) (us : List Shadow) (c : Checkpoints) (a : Place) (limit k p : ℕ) → AreCheckpoints s us c → a.0 < c.accounts →
    limit ≤ as_of (k * c.accounts + c.accounts) → slice_get c.lasts.items (k * c.accounts + a.0) ≡ Some p →
    IsOn us a p × IsNoneAfter (take limit us) a p
start s us c a limit k p are near behind read =
    let last = are.each k a p near read in (
      OnAccount.on_taken us _ a p last.on,
      OnAccount.none_in_front us limit a p (λ i u low there own.
          OnAccount.none_of_front us _ a p i u last.after (omega arith) there own),
    )
