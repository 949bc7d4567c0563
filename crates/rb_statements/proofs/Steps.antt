-- The rows of a statement, from one operation on the account back to the one before.
use Rattle.std.proofs.Common.{◌≡◌, ℕ, ◌+◌, ◌-◌, ◌<◌, ◌≤◌, Bool, true, false, cond, List, [], ◌∷◌, ◌++◌, length, take, drop, reverse, refl}
use Rattle.std.proofs.Common.{ap, sym, ◌∙◌, subst, arith, append_assoc}
use Rattle.std.specs.Prelude.{ℤ, pos, neg_ℤ, ◌+ℤ◌, ◌≤ℤ◌, ◌==◌, slice_get, Option, Some, None, option_map, option_and_then}
use Rattle.std.specs.Prelude.{is_some, IsSome}
use Rattle.std.proofs.lemmas.Int.{ints}
use Rattle.std.proofs.lemmas.Bool.Decides.{nat_tests}
use Rattle.std.proofs.lemmas.List.{append-nil, length-take-le, reverse-append, take-append-drop}
use Rattle.std.proofs.lemmas.Option.{slice_get_within}
use Rattle.std.proofs.Math.Seq.{take-length}
use Rattle.rb_money.specs.Amounts.{cents}
use Rattle.rb_money.specs.Settings.{Settings, start_of}
use Rattle.rb_money.specs.declared.place.Place.{Place}
use Rattle.rb_shadow.specs.Labels.{label_of}
use Rattle.rb_shadow.specs.Operations.{bal, is_cancelled, is_on}
use Rattle.rb_shadow.specs.declared.shadow.Shadow.{Shadow}
use Rattle.rb_shadow.specs.declared.label.Label.{Label}
use Rattle.rb_ledger.specs.Valid.{IsValid, operation_at, first_cancel_in, first_cancel_from}
use Rattle.rb_ledger.specs.Changes.{moved_at}
use Rattle.rb_ledger.specs.OnAccount.{IsOn, IsLast}
use Rattle.rb_ledger.proofs.Public.OnAccount
use Rattle.rb_ledger.proofs.Public.Fronts
use Rattle.rb_statements.specs.Statements.{row_after, rows_of, statement_of}
use Rattle.rb_statements.specs.declared.row.Row.{Row}
use Rattle.rb_statements.specs.declared.account.Statement.{Statement}
use Rattle.rb_statements.proofs.Same.{of_fields, same_fields}

-- ---- what is looked up at a position on the account

entry_here : (us : List Shadow) (p : ℕ) → 0 < p → operation_at us p ≡ slice_get us (p - 1)
entry_here us p some = let test : (p == 0) ≡ false = grind (arith, nat_tests) in ap (λ b. cond b None (slice_get us (p - 1))) test

entry_there : (us : List Shadow) (a : Place) (p : ℕ) → IsOn us a p → 0 < p → (u : Shadow) × (operation_at us p ≡ Some u)
entry_there us a p on some = let (u, there, own) = OnAccount.on_entry us a p on some in (u, entry_here us p some ∙ there)

-- at a position on the account an operation is read
pub has_entry : (us : List Shadow) (a : Place) (p : ℕ) (o : Option Shadow) → IsOn us a p → 0 < p → o ≡ operation_at us p → IsSome o
has_entry us a p None on some e = let (u, there) = entry_there us a p on some in let same : None ≡ Some u = e ∙ there in cc
has_entry us a p (Some x) on some e = refl

moved_here : (s : Settings) (us : List Shadow) (a : Place) (p : ℕ) → IsOn us a p → 0 < p →
    moved_at s us a p ≡ Some (bal s (take p us) a +ℤ neg_ℤ (bal s (take (p - 1) us) a))
moved_here s us a p on some = let (u, there) = entry_there us a p on some in
    ap (option_map (λ (v : Shadow). bal s (take p us) a +ℤ neg_ℤ (bal s (take (p - 1) us) a))) there

-- and it moved something there, or nothing
pub has_moved : (s : Settings) (us : List Shadow) (a : Place) (p : ℕ) (o : Option ℤ) → IsOn us a p → 0 < p → o ≡ moved_at s us a p →
    IsSome o
has_moved s us a p None on some e = let same : None ≡ Some (bal s (take p us) a +ℤ neg_ℤ (bal s (take (p - 1) us) a)) =
    e ∙ moved_here s us a p on some in cc
has_moved s us a p (Some z) on some e = refl

-- the operation that is found there
pub found_there : (us : List Shadow) (a : Place) (p : ℕ) (o : Option Shadow) (x : Shadow) → IsOn us a p → 0 < p →
    o ≡ operation_at us p → o ≡ Some x → (slice_get us (p - 1) ≡ Some x) × (is_on (take (p - 1) us) x a ≡ true)
found_there us a p o x on some e is =
    let (u, there, own) = OnAccount.on_entry us a p on some in
    let found : slice_get us (p - 1) ≡ Some x = sym (entry_here us p some) ∙ sym e ∙ is in
    let both : Some x ≡ Some u = sym found ∙ there in
    let same : x ≡ u = cc in
    (found, ap (λ (v : Shadow). is_on (take (p - 1) us) v a) same ∙ own)

-- what it moved
pub moved_there : (s : Settings) (us : List Shadow) (a : Place) (p : ℕ) (o : Option ℤ) (z : ℤ) → IsOn us a p → 0 < p → o ≡ moved_at s us a p
    → o ≡ Some z → z ≡ bal s (take p us) a +ℤ neg_ℤ (bal s (take (p - 1) us) a)
moved_there s us a p o z on some e is = let same : Some z ≡ Some (bal s (take p us) a +ℤ neg_ℤ (bal s (take (p - 1) us) a)) =
    sym is ∙ e ∙ moved_here s us a p on some in cc

-- ---- the rows of the first operations

-- the rows that an operation adds
abbrev rows_here : Settings → List Shadow → Place → List Shadow → Shadow → List Row
rows_here s all a before u = cond (is_on before u a) (row_after s all a before u ∷ []) []

-- one more operation adds its own rows
rows_push : (s : Settings) (all : List Shadow) (a : Place) (before vs : List Shadow) (u : Shadow) →
    rows_of s all a before (vs ++ u ∷ []) ≡ rows_of s all a before vs ++ rows_here s all a (before ++ vs) u
rows_push s all a before [] u = append-nil (rows_here s all a before u) ∙ ap (λ ws. rows_here s all a ws u) (sym (append-nil before))
rows_push s all a before (v ∷ vs) u =
    let first : List Row = rows_here s all a before v in
    let rest : List Row = rows_of s all a (before ++ v ∷ []) vs in
    ap (λ rows. first ++ rows) (rows_push s all a (before ++ v ∷ []) vs u)
    ∙ sym (append_assoc first rest (rows_here s all a ((before ++ v ∷ []) ++ vs) u))
    ∙ ap (λ ws. (first ++ rest) ++ rows_here s all a ws u) (append_assoc before (v ∷ []) vs)

rows_next : (s : Settings) (us : List Shadow) (a : Place) (i : ℕ) (u : Shadow) → slice_get us i ≡ Some u →
    rows_of s us a [] (take (i + 1) us) ≡ rows_of s us a [] (take i us) ++ rows_here s us a (take i us) u
rows_next s us a i u there = ap (rows_of s us a []) (Fronts.one_more us i u there) ∙ rows_push s us a [] (take i us) u

-- an operation on other accounts adds none
unshown : (s : Settings) (us : List Shadow) (a : Place) (i : ℕ) (u : Shadow) → slice_get us i ≡ Some u → is_on (take i us) u a ≡ false →
    rows_of s us a [] (take (i + 1) us) ≡ rows_of s us a [] (take i us)
unshown s us a i u there apart =
    let front : List Row = rows_of s us a [] (take i us) in
    rows_next s us a i u there ∙ ap (λ b. front ++ cond b (row_after s us a (take i us) u ∷ []) []) apart ∙ append-nil front

-- so the rows are those up to the last operation on the account
last_rows : (s : Settings) (us : List Shadow) (a : Place) (n p : ℕ) → n ≤ length us → IsLast (take n us) a p →
    rows_of s us a [] (take n us) ≡ rows_of s us a [] (take p us)
last_rows s us a n p low last = OnAccount.as_of_last (rows_of s us a []) us a n p (unshown s us a) low last

-- the last row is made of what is looked up
pub own_row : (s : Settings) (us : List Shadow) (a : Place) (p : ℕ) (u : Shadow) (k : Label) (z : ℤ) (o : Option ℕ) (c : Bool) (n : ℕ) →
    0 < p → slice_get us (p - 1) ≡ Some u → is_on (take (p - 1) us) u a ≡ true → k ≡ label_of u.kind
    → z ≡ bal s (take p us) a +ℤ neg_ℤ (bal s (take (p - 1) us) a) → o
    ≡ option_and_then (λ (w : Shadow). first_cancel_in us w.name) (operation_at us p) → c ≡ is_some o → pos n ≡ bal s (take p us) a
    → rows_of s us a [] (take p us) ≡ rows_of s us a [] (take (p - 1) us) ++ of_fields p u.name k z c n ∷ []
own_row s us a p u k z o c n some there own kind moved cancel known sum =
    let front : List Shadow = take (p - 1) us in
    let here : p - 1 + 1 ≡ p = omega arith in
    let after : take p us ≡ front ++ u ∷ [] = ap (λ m. take m us) (sym here) ∙ Fronts.one_more us (p - 1) u there in
    let near : p - 1 < length us = slice_get_within us (p - 1) u there in
    let position : p ≡ length front + 1 = omega (arith, length-take-le (p - 1) us (omega arith)) in
    let change : z ≡ bal s (front ++ u ∷ []) a +ℤ neg_ℤ (bal s front a) = moved ∙ ap (λ ws. bal s ws a +ℤ neg_ℤ (bal s front a)) after in
    let cancelled : c ≡ is_cancelled us u.name = known ∙ ap is_some (cancel
    ∙ ap (option_and_then (λ (w : Shadow). first_cancel_in us w.name)) (entry_here us p some ∙ there)) ∙ any (is_cancelled us u.name) in
    let balance : n ≡ cents (bal s (front ++ u ∷ []) a) = ap cents (sum ∙ ap (λ ws. bal s ws a) after) in
    let made : of_fields p u.name k z c n ≡ row_after s us a front u =
    same_fields _ _ _ _ _ _ _ _ _ _ _ _ position refl kind change cancelled balance in
    ap (rows_of s us a []) after ∙ rows_push s us a [] front u
    ∙ ap (λ b. rows_of s us a [] front ++ cond b (row_after s us a front u ∷ []) []) own
    ∙ ap (λ (r : Row). rows_of s us a [] front ++ r ∷ []) (sym made)
  where
    any : (b : Bool) → is_some (cond b (Some (first_cancel_from 1 us u.name)) None) ≡ b
    any true = refl
    any false = refl

-- ---- back along the account

-- what an operation moved is no more than what there was after it
pub covered : (s : Settings) (us : List Shadow) (a : Place) (p n : ℕ) (z : ℤ) → IsValid s us → pos n ≡ bal s (take p us) a +ℤ z → z ≤ℤ pos n
covered s us a p n z valid sum =
    let low : pos 0 ≤ℤ bal s (take p us) a = valid.covered (take p us) (drop p us) (sym (take-append-drop p us)) a in
    omega (arith, ints, low, sum)

-- the last operation of all is the last of as many first ones as there are
last_whole : (us : List Shadow) (a : Place) (p : ℕ) → IsLast us a p → IsLast (take (length us) us) a p
last_whole us a p last = subst (λ vs. IsLast vs a p) (sym (take-length us)) last

-- at the last operation the balance is the whole one
pub bal_start : (s : Settings) (us : List Shadow) (a : Place) (p : ℕ) → IsValid s us → IsLast us a p → bal s us a ≡ bal s (take p us) a
bal_start s us a p valid last =
    ap (λ vs. bal s vs a) (sym (take-length us)) ∙ OnAccount.last_balance s us a (length us) p valid (omega arith) (last_whole us a p last)

-- no row is found yet
pub rows_start : (s : Settings) (us : List Shadow) (a : Place) (p : ℕ) (rows : List Row) → IsLast us a p → rows ≡ [] →
    rows_of s us a [] us ≡ rows_of s us a [] (take p us) ++ reverse rows
rows_start s us a p rows last none =
    ap (rows_of s us a []) (sym (take-length us)) ∙ last_rows s us a (length us) p (omega arith) (last_whole us a p last)
    ∙ sym (append-nil (rows_of s us a [] (take p us))) ∙ ap (λ (xs : List Row). rows_of s us a [] (take p us) ++ reverse xs) (sym none)

-- before the first operation all are found
pub rows_end : (s : Settings) (us : List Shadow) (a : Place) (p : ℕ) (rows : List Row) → p ≤ 0 →
    rows_of s us a [] us ≡ rows_of s us a [] (take p us) ++ reverse rows → rows_of s us a [] us ≡ reverse rows
rows_end s us a p rows low found = found ∙ ap (λ k. rows_of s us a [] (take k us) ++ reverse rows) (let none : p ≡ 0 = omega arith in none)

-- an account on which no operation is has no rows
pub none_found : (s : Settings) (us : List Shadow) (a : Place) (p : ℕ) → IsLast us a p → p ≤ 0 → [] ≡ rows_of s us a [] us
none_found s us a p last low = sym (rows_end s us a p [] low (rows_start s us a p [] last refl))

-- from an operation to the one before, with the rows found so far in reverse
pub rows_back : (s : Settings) (us : List Shadow) (a : Place) (p q : ℕ) (row : Row) (rows now : List Row) → p ≤ length us →
    IsLast (take (p - 1) us) a q → rows_of s us a [] us ≡ rows_of s us a [] (take p us) ++ reverse rows
    → rows_of s us a [] (take p us) ≡ rows_of s us a [] (take (p - 1) us) ++ row ∷ [] → now ≡ rows ++ row ∷ [] →
    rows_of s us a [] us ≡ rows_of s us a [] (take q us) ++ reverse now
rows_back s us a p q row rows now low last before own added =
    let front : List Row = rows_of s us a [] (take q us) in
    let here : rows_of s us a [] (take p us) ≡ front ++ row ∷ [] = own
    ∙ ap (λ xs. xs ++ row ∷ []) (last_rows s us a (p - 1) q (omega arith) last) in
    before ∙ ap (λ xs. xs ++ reverse rows) here ∙ append_assoc front (row ∷ []) (reverse rows)
    ∙ ap (λ xs. front ++ xs) (sym (reverse-append rows (row ∷ [])) ∙ ap reverse (sym added))

-- and the balance, with what the operation moved taken off
pub bal_back : (s : Settings) (us : List Shadow) (a : Place) (p q n m : ℕ) (z : ℤ) → IsValid s us → p ≤ length us →
    IsLast (take (p - 1) us) a q → pos n ≡ bal s (take (p - 1) us) a +ℤ z → pos n ≡ pos m +ℤ z → pos m ≡ bal s (take q us) a
bal_back s us a p q n m z valid low last after before = omega (
  arith,
  ints,
  OnAccount.last_balance s us a (p - 1) q valid (omega arith) last,
  after,
  before,
)

-- ---- the whole statement

whole : ℕ → List Row → ℕ → Statement
whole start rows balance = record { start = start; rows = rows; balance = balance }

-- what was found is what is to be shown
pub shown : (s : Settings) (us : List Shadow) (a : Place) (start balance : ℕ) (rows : List Row) → start ≡ start_of s a →
    rows ≡ rows_of s us a [] us → pos balance ≡ bal s us a → record { start = start; rows = rows; balance = balance } ≡ statement_of s us a
unfolding whole statement_of
shown s us a start balance rows e f g = ap (λ n. whole n rows balance) e ∙ ap (λ r. whole (start_of s a) r balance) f
    ∙ ap (λ z. whole (start_of s a) (rows_of s us a [] us) (cents z)) g
