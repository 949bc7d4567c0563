-- Reads of the accounts' heads.
use Rattle.rb_ledger.proofs.Words.{◌≡◌, ℕ, zero, suc, ◌<◌, ◌≤◌, List, [], ◌∷◌, ◌++◌, length, get_or, refl, ap, ◌∙◌}
use Rattle.rb_ledger.proofs.Words.{arith, inl, Some, None, slice_get, Option, option_map, unwrap_or, Settings}
use Rattle.rb_ledger.proofs.Words.{IsConfigured, cents, Place, NOWHERE, Shadow, Deps, bal, other_of, Head, MOST_BALANCE}
use Rattle.rb_ledger.proofs.Words.{IsValid, IsClocked, AreHeads, no_head, IsLast, slice_get-get_or}
use Rattle.rb_ledger.proofs.Public.Legal
use Rattle.rb_ledger.proofs.Others
use Rattle.rb_ledger.proofs.Indexed

-- an account's head is there
pub own_near : (s : Settings) (us : List Shadow) (hs : List Head) (i m n : ℕ) → AreHeads s us hs → m ≡ length hs → i < length s.starts →
    n ≡ i → n < m
own_near s us hs i m n are count near is = omega (arith, is, count, are.count, near)

-- an account's head has the position of the last operation on it
pub head_last : (s : Settings) (us : List Shadow) (hs : List Head) (a : Place) (h : Head) → AreHeads s us hs → slice_get hs a.0 ≡ Some h →
    IsLast us a h.last
head_last s us hs a h are read = (are.each a h read).last

-- none is on an account that isn't there
pub last_absent : (s : Settings) (us : List Shadow) (hs : List Head) (a : Place) → IsValid s us → AreHeads s us hs → length hs ≤ a.0 →
    IsLast us a 0
last_absent s us hs a valid are past = record {
  on = inl refl;
  after = λ i u e own. absurd (omega (arith, past, are.count, Others.on_near s us i u a valid e own));
}

-- the running balance of an account, and a bound of it
pub head_small : (s : Settings) (us : List Shadow) (c : Deps) (hs : List Head) (a : Place) (h : Head) → IsClocked s us c → AreHeads s us hs
    → slice_get hs a.0 ≡ Some h → h.balance ≤ MOST_BALANCE
head_small s us c hs a h kept are read = Indexed.bal_small s us a h.balance kept.configured kept.valid (are.each a h read).balance

-- the balance that a head holds, and the balance of none
pub head_balance : (s : Settings) (us : List Shadow) (hs : List Head) (a : Place) (n : ℕ) → AreHeads s us hs → a.0 < length s.starts →
    n ≡ (get_or hs a.0 no_head).balance → n ≡ cents (bal s us a)
head_balance s us hs a n are near is = is ∙ ap cents (are.each a (get_or hs a.0 no_head)
    (slice_get-get_or hs a.0 no_head (omega (arith, are.count, near)))).balance

-- the balance of the second account, in the head that its place names
pub other_balance : (s : Settings) (us : List Shadow) (c : Deps) (hs : List Head) (h : Shadow) (n : ℕ) → IsConfigured s → IsClocked s us c →
    AreHeads s us hs → IsValid s (us ++ h ∷ []) → n ≡ (get_or hs (unwrap_or (other_of us h.kind) NOWHERE).0 no_head).balance
    → n ≡ unwrap_or (option_map (λ a. cents (bal s us a)) (other_of us h.kind)) 0
other_balance s us c hs h n configured kept are longer is = at (other_of us h.kind) refl is
  where
    past : {X : Type 0} (xs : List X) (i : ℕ) (d : X) → length xs ≤ i → get_or xs i d ≡ d
    past [] i d e = refl
    past (x ∷ xs) zero d e = absurd (omega arith)
    past (x ∷ xs) (suc i) d e = past xs i d (omega arith)

    at : (o : Option Place) → other_of us h.kind ≡ o → n ≡ (get_or hs (unwrap_or o NOWHERE).0 no_head).balance →
        n ≡ unwrap_or (option_map (λ a. cents (bal s us a)) o) 0
    at None e is = is ∙ ap (λ (h : Head). h.balance) (past hs NOWHERE.0 no_head (omega (
      arith,
      are.count,
      configured.starts_of_all,
      configured.few_accounts,
    )))
    at (Some b) e is = head_balance s us hs b n are (Others.other_apart s us h b kept.valid (Legal.IsValid-last s us h longer) e).0 is
