-- The entries on an account, and the balance as of the last of them.
use Rattle.rb_ledger.proofs.Words.{◌≡◌, ℕ, zero, suc, ◌+◌, ◌-◌, ◌<◌, ◌≤◌, true, false, ◌||◌, List, [], ◌∷◌, ◌++◌}
use Rattle.rb_ledger.proofs.Words.{length, take, refl, ap, sym, ◌∙◌, subst, arith, ◌⊎◌, inl, inr, Some, None, slice_get}
use Rattle.rb_ledger.proofs.Words.{pos, ◌==◌, Option, option_to_list, list_any, ints, take-append-le, slice_get_within}
use Rattle.rb_ledger.proofs.Words.{Settings, Place, equal, number_sound, same_place, Shadow, bal, is_on, other_of}
use Rattle.rb_ledger.proofs.Words.{IsValid, change, IsOn, IsNoneAfter, IsLast, take-take}
use Rattle.rb_shadow.proofs.Public.Members
use Rattle.rb_ledger.proofs.Public.Fronts
use Rattle.rb_ledger.proofs.Public.Pushes
use Rattle.rb_ledger.proofs.Moves

-- an index within the list has an element
pub element : (us : List Shadow) (i : ℕ) → i < length us → (u : Shadow) × (slice_get us i ≡ Some u)
element [] i h = absurd (omega arith)
element (u ∷ us) zero h = (u, refl)
element (u ∷ us) (suc i) h = element us i (omega arith)

-- ---- the accounts of an operation

-- whether an entry is on an account doesn't depend on what follows it
pub on_front_same : (us : List Shadow) (i n : ℕ) (u : Shadow) (a : Place) → i ≤ n → is_on (take i (take n us)) u a ≡ is_on (take i us) u a
on_front_same us i n u a low = ap (λ vs. is_on vs u a) (take-take i n us low)

-- whether an operation is on an account does not depend on what comes after it
pub on_push_same : (us : List Shadow) (h : Shadow) (i : ℕ) (u : Shadow) (a : Place) → i ≤ length us →
    is_on (take i (us ++ h ∷ [])) u a ≡ is_on (take i us) u a
on_push_same us h i u a low = ap (λ vs. is_on vs u a) (take-append-le i us (h ∷ []) low)

-- on which of its accounts an operation is
pub on_sides : (us : List Shadow) (u : Shadow) (a : Place) → is_on us u a ≡ true → (u.account ≡ a) ⊎ (other_of us u.kind ≡ Some a)
on_sides us u a e = at (other_of us u.kind) e
  where
    at : (o : Option Place) → list_any (λ (p : Place). p.0 == a.0) (u.account ∷ option_to_list o) ≡ true → (u.account ≡ a) ⊎ (o ≡ Some a)
    at None e = elim (Members.or-true _ _ e) [
      | inl k ↦ inl (same_place u.account a (number_sound _ _ k))
      | inr k ↦ absurd (Members.true≢false (sym k))
    ]
    at (Some b) e = elim (Members.or-true _ _ e) [
      | inl k ↦ inl (same_place u.account a (number_sound _ _ k))
      | inr k ↦ elim (Members.or-true _ _ k) [
        | inl j ↦ inr (ap Some (same_place b a (number_sound _ _ j)))
        | inr j ↦ absurd (Members.true≢false (sym j))
      ]
    ]

-- and that it is on both
pub on_own : (us : List Shadow) (u : Shadow) (a : Place) → u.account.0 ≡ a.0 → is_on us u a ≡ true
on_own us u a e = ap (λ b. b || list_any (λ (p : Place). p.0 == a.0) (option_to_list (other_of us u.kind))) (equal _ _ e)

-- an operation is on its second account
pub on_other : (us : List Shadow) (u : Shadow) (a : Place) → other_of us u.kind ≡ Some a → is_on us u a ≡ true
on_other us u a e = ap (λ o. list_any (λ (p : Place). p.0 == a.0) (u.account ∷ option_to_list o)) e
    ∙ Members.or-right _ _ (ap (λ b. b || false) (equal a.0 a.0 refl))

-- ---- positions on an account

-- a position on an account is within the list
pub on_within : (us : List Shadow) (a : Place) (p : ℕ) → IsOn us a p → p ≤ length us
on_within us a p (inl e) = omega (arith, e)
on_within us a p (inr (i, u, is, there, own)) = omega (arith, is, slice_get_within us i u there)

-- the entry at such a position
pub on_entry : (us : List Shadow) (a : Place) (p : ℕ) → IsOn us a p → 0 < p →
    (u : Shadow) × (slice_get us (p - 1) ≡ Some u) × (is_on (take (p - 1) us) u a ≡ true)
on_entry us a p (inl e) some = absurd (omega (arith, e))
on_entry us a p (inr (i, u, is, there, own)) some =
    let back : p - 1 ≡ i = omega (arith, is) in
    (u, ap (slice_get us) back ∙ there, ap (λ n. is_on (take n us) u a) back ∙ own)

-- a position on an account in a prefix is one in the list
pub on_taken : (us : List Shadow) (n : ℕ) (a : Place) (p : ℕ) → IsOn (take n us) a p → IsOn us a p
on_taken us n a p (inl none) = inl none
on_taken us n a p (inr (i, u, is, there, own)) =
    let (near, here) = Fronts.get_take n us i u there in
    inr (i, u, is, here, sym (on_front_same us i n u a (omega arith)) ∙ own)

-- a position on an account in a prefix is within it
pub on_taken_within : (us : List Shadow) (n : ℕ) (a : Place) (p : ℕ) → IsOn (take n us) a p → p ≤ n
on_taken_within us n a p (inl none) = omega (arith, none)
on_taken_within us n a p (inr (i, u, is, there, own)) = omega (arith, is, (Fronts.get_take n us i u there).0)

-- that none of the first operations is on an account after a position, by the whole list
pub none_of_front : (us : List Shadow) (n : ℕ) (a : Place) (p i : ℕ) (u : Shadow) → IsNoneAfter (take n us) a p → i < n →
    slice_get us i ≡ Some u → is_on (take i us) u a ≡ true → i < p
none_of_front us n a p i u none near there own = none i u (Fronts.get_taken n us i near ∙ there) (on_front_same us i n u a (omega arith)
    ∙ own)

-- if no operation of a prefix is on the account after a position
pub none_in_front : (us : List Shadow) (n : ℕ) (a : Place) (p : ℕ) → ((i : ℕ) (u : Shadow) → i < n → slice_get us i ≡ Some u →
    is_on (take i us) u a ≡ true → i < p) → IsNoneAfter (take n us) a p
none_in_front us n a p all i u there own = let (near, here) = Fronts.get_take n us i u there in
    all i u near here (sym (on_front_same us i n u a (omega arith)) ∙ own)

-- ---- as of the last entry on an account

-- what no entry of other accounts changes is as it was, if no entry after a position is on the account
unmoved : {V : Type 0} (f : List Shadow → V) (us : List Shadow) (a : Place) (p d : ℕ) →
    ((i : ℕ) (u : Shadow) → slice_get us i ≡ Some u → is_on (take i us) u a ≡ false → f (take (i + 1) us) ≡ f (take i us))
    → p + d ≤ length us → IsNoneAfter (take (p + d) us) a p → f (take (p + d) us) ≡ f (take p us)
unmoved f us a p zero still low none = ap (λ n. f (take n us)) (let z : p + 0 ≡ p = omega arith in z)
unmoved f us a p (suc d) still low none =
    let (u, there) = element us (p + d) (omega arith) in
    let next : p + suc d ≡ (p + d) + 1 = omega arith in
    let apart : is_on (take (p + d) us) u a ≡ false = off (p + d) u refl there (Members.bool_cases (is_on (take (p + d) us) u a)) in
    ap (λ n. f (take n us)) next ∙ still (p + d) u there apart
    ∙ unmoved f us a p d still (omega arith) (none_in_front us (p + d) a p (λ i v near e own. none_of_front us (p
    + suc d) a p i v none (omega arith) e own))
  where
    off : (i : ℕ) (u : Shadow) → i ≡ p + d → slice_get us i ≡ Some u → (is_on (take i us) u a ≡ true) ⊎ (is_on (take i us) u a ≡ false) →
        is_on (take i us) u a ≡ false
    off i u is there (inl own) = absurd (omega (arith, is, none_of_front us (p + suc d) a p i u none (omega (arith, is)) there own))
    off i u is there (inr e) = e

-- so it is as it was at the last one
pub as_of_last : {V : Type 0} (f : List Shadow → V) (us : List Shadow) (a : Place) (n p : ℕ) →
    ((i : ℕ) (u : Shadow) → slice_get us i ≡ Some u → is_on (take i us) u a ≡ false → f (take (i + 1) us) ≡ f (take i us))
    → n ≤ length us → IsLast (take n us) a p → f (take n us) ≡ f (take p us)
as_of_last f us a n p still low last =
    let within : p ≤ n = on_taken_within us n a p last.on in
    let split : p + (n - p) ≡ n = omega arith in
    ap (λ k. f (take k us)) (sym split) ∙ unmoved f us a p (n - p) still (omega arith)
    (subst (λ k. IsNoneAfter (take k us) a p) (sym split) last.after)

-- an operation changes nothing on an account that it isn't on
pub unchanged : (s : Settings) (us : List Shadow) (a : Place) (i : ℕ) (u : Shadow) → IsValid s us → slice_get us i ≡ Some u →
    is_on (take i us) u a ≡ false → change (take i us) u a ≡ pos 0
unchanged s us a i u valid there apart =
    let (front, target) = Moves.target_there s us i u valid there in
    Pushes.change_elsewhere (take i us) u a front.unique target apart

-- the balance is one such
pub last_balance : (s : Settings) (us : List Shadow) (a : Place) (n p : ℕ) → IsValid s us → n ≤ length us → IsLast (take n us) a p →
    bal s (take n us) a ≡ bal s (take p us) a
last_balance s us a n p valid low last =
    as_of_last (λ vs. bal s vs a) us a n p (λ i u there apart. omega (
      arith,
      ints,
      Moves.moved_on s us a i u valid there,
      unchanged s us a i u valid there apart,
    )) low last
