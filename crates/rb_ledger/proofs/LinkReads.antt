-- Reads of an account's links, and whether an operation is on an account.
use Rattle.rb_ledger.proofs.Words.{◌≡◌, ℕ, ◌+◌, ◌-◌, ◌<◌, ◌≤◌, Bool, true, false, cond, ◌||◌, List, ◌∷◌, length, take}
use Rattle.rb_ledger.proofs.Words.{drop, refl, ap, sym, ◌∙◌, subst, arith, inr, Some, None, pos, slice_get, slice_index}
use Rattle.rb_ledger.proofs.Words.{◌==◌, option_to_list, ints, take-append-drop, list_any, Settings, IsConfigured}
use Rattle.rb_ledger.proofs.Words.{Place, Shadow, other_of, is_on, Link, Links, MOST_BALANCE, equal, number_sound}
use Rattle.rb_ledger.proofs.Words.{IsValid, operation_at, AreLinks, IsLink, link_at_place, IsOn}
use Rattle.std.proofs.Math.Bool.{or-false}
use Rattle.rb_shadow.specs.Operations.{bal}
use Rattle.rb_shadow.proofs.Public.Members
use Rattle.rb_ledger.proofs.Public.Legal
use Rattle.rb_ledger.proofs.Others
use Rattle.rb_ledger.proofs.Indexed
use Rattle.rb_ledger.proofs.ChainFacts
use Rattle.rb_ledger.proofs.Public.OnAccount
use Rattle.rb_ledger.proofs.FoundNames.{entry_there}

-- the link there, read from the list of links alone
pub link_read : (s : Settings) (us : List Shadow) (ls : List Links) (a : Place) (p : ℕ) (l : Links) → AreLinks s us ls → IsOn us a p →
    0 < p → slice_get ls (p - 1) ≡ Some l
    → (l.account.0 ≡ a.0 → IsLink s (take (p - 1) us) (take p us) a l.own)
    × ((l.account.0 ≡ a.0 → ⊥) → IsLink s (take (p - 1) us) (take p us) a l.other)
link_read s us ls a p l are on some beside =
    let (u, there, own) = OnAccount.on_entry us a p on some in
    ChainFacts.link_on s us ls a p u l are on some there beside

-- the same of the link that the list of links gives
pub link_there : (s : Settings) (us : List Shadow) (ls : List Links) (a : Place) (p : ℕ) (l : Links) (k : Link) → AreLinks s us ls →
    IsOn us a p → 0 < p → slice_get ls (p - 1) ≡ Some l → k ≡ link_at_place l a → IsLink s (take (p - 1) us) (take p us) a k
link_there s us ls a p l k are on some beside is = subst (IsLink s (take (p - 1) us) (take p us) a) (sym is)
    (at (l.account.0 == a.0) (number_sound l.account.0 a.0) (λ e same. Members.true≢false (sym (equal l.account.0 a.0 same) ∙ e)))
  where
    both : (l.account.0 ≡ a.0 → IsLink s (take (p - 1) us) (take p us) a l.own)
        × ((l.account.0 ≡ a.0 → ⊥) → IsLink s (take (p - 1) us) (take p us) a l.other)
    both = link_read s us ls a p l are on some beside

    at : (b : Bool) → (b ≡ true → l.account.0 ≡ a.0) → (b ≡ false → l.account.0 ≡ a.0 → ⊥) →
        IsLink s (take (p - 1) us) (take p us) a (cond b l.own l.other)
    at true own other = both.0 (own refl)
    at false own other = both.1 (other refl)

-- the link there, by the list up to the entry before it
pub linked_there : (s : Settings) (us : List Shadow) (a : Place) (p : ℕ) (l : Link) → 0 < p → IsLink s (take (p - 1) us) (take p us) a l →
    IsLink s (take (p - 1) us) (take (p - 1 + 1) us) a l
linked_there s us a p l some link = subst (λ n. IsLink s (take (p - 1) us) (take n us) a l) (let z : p ≡ p - 1 + 1 = omega arith in z) link

-- the balance of an account without entries
pub start_balance : (s : Settings) (us : List Shadow) (a : Place) (p n : ℕ) → p ≡ 0 → n ≡ slice_index s.starts a.0 →
    pos n ≡ bal s (take p us) a
unfolding bal
start_balance s us a p n none is = omega (arith, ints, is, ap (λ k. bal s (take k us) a) none)

-- the balance as of a position is within the bound on balances
pub front_small : (s : Settings) (us : List Shadow) (a : Place) (p n : ℕ) → IsConfigured s → IsValid s us → pos n ≡ bal s (take p us) a →
    n ≤ MOST_BALANCE
front_small s us a p n configured valid e = Indexed.bal_small s (take p us) a n configured
    (Legal.IsValid-front s (take p us) (drop p us) (subst (IsValid s) (sym (take-append-drop p us)) valid)) e

-- whether it is on the account, seen with the whole list
pub on_whole : (s : Settings) (us : List Shadow) (a : Place) (i : ℕ) (u : Shadow) → IsValid s us → slice_get us i ≡ Some u →
    is_on (take i us) u a ≡ is_on us u a
on_whole s us a i u valid there = ap (λ o. list_any (λ (p : Place). p.0 == a.0) (u.account
    ∷ option_to_list o)) (Others.other_whole s us i u valid there)

-- the entry is on the account
pub own_on : (s : Settings) (us : List Shadow) (a : Place) (p : ℕ) (u : Shadow) → IsValid s us → Some u ≡ operation_at us p →
    true ≡ is_on us u a → (0 < p) × IsOn us a p
own_on s us a p u valid e own =
    let (some, there) = entry_there us p u e in
    (some, inr (p - 1, u, omega arith, there, on_whole s us a (p - 1) u valid there ∙ sym own))

-- and the entry is on the account if its position is
pub entry_on : (s : Settings) (us : List Shadow) (a : Place) (p : ℕ) (u : Shadow) → IsValid s us → Some u ≡ operation_at us p →
    IsOn us a p → is_on us u a ≡ true
entry_on s us a p u valid e on =
    let (some, there) = entry_there us p u e in
    let (v, here, own) = OnAccount.on_entry us a p on some in
    let both : Some u ≡ Some v = sym there ∙ here in
    let one : u ≡ v = cc in
    sym (on_whole s us a (p - 1) u valid there) ∙ ap (λ (w : Shadow). is_on (take (p - 1) us) w a) one ∙ own

-- an account that has an entry is one of the configuration
pub own_account : (s : Settings) (us : List Shadow) (a : Place) (p : ℕ) → IsValid s us → IsOn us a p → 0 < p → a.0 < length s.starts
own_account s us a p valid on some = let (u, there, own) = OnAccount.on_entry us a p on some in
    Others.on_near s us (p - 1) u a valid there own

-- whether an operation is on an account, by its two accounts
pub on_first : (us : List Shadow) (u : Shadow) (a : Place) → (u.account.0 == a.0) ≡ true → true ≡ is_on us u a
on_first us u a e = sym (OnAccount.on_own us u a (number_sound u.account.0 a.0 e))

-- it is on its second account
pub on_second : (us : List Shadow) (u : Shadow) (a b : Place) (r : Bool) → (u.account.0 == a.0) ≡ false → Some b ≡ other_of us u.kind →
    r ≡ (b.0 == a.0) → r ≡ is_on us u a
on_second us u a b r e other is =
    is ∙ sym (ap (λ o. list_any (λ (p : Place). p.0 == a.0) (u.account ∷ option_to_list o)) (sym other)
    ∙ ap (λ c. c || ((b.0 == a.0) || false)) e ∙ or-false (b.0 == a.0))

-- without a second account it is on no other than its own
pub on_none : (us : List Shadow) (u : Shadow) (a : Place) → (u.account.0 == a.0) ≡ false → None ≡ other_of us u.kind → false ≡ is_on us u a
on_none us u a e none = sym (ap (λ o. list_any (λ (p : Place). p.0 == a.0) (u.account ∷ option_to_list o)) (sym none)
    ∙ ap (λ b. b || false) e)
