-- The second account of an operation, and the heads of both its accounts.
use Rattle.rb_ledger.proofs.Public.Pushes.{other_by}
use Rattle.rb_ledger.proofs.Words.{◌≡◌, ℕ, ◌+◌, ◌<◌, true, false, List, [], ◌∷◌, ◌++◌, length, take, drop, refl, ap}
use Rattle.rb_ledger.proofs.Words.{sym, ◌∙◌, subst, arith, ◌⊎◌, inl, inr, Some, None, length-set, pos, ◌==◌, nat_le}
use Rattle.rb_ledger.proofs.Words.{slice_get, Option, option_map, option_and_then, unwrap_or, take-append-drop}
use Rattle.rb_ledger.proofs.Words.{slice_get_within, cents, Settings, IsConfigured, Place, NOWHERE, above, equal}
use Rattle.rb_ledger.proofs.Words.{same_place, Shadow, OpName, Among, bal, target_of, receiver_of, other_of, is_on}
use Rattle.rb_ledger.proofs.Words.{kind_in, IsSound, is_misdirected, Head, Links, IsValid, HasTarget, IsLinked}
use Rattle.rb_ledger.proofs.Words.{AreHeads, heads_at, IsLast}
use Rattle.rb_shadow.proofs.Public.Members
use Rattle.rb_shadow.proofs.Public.SoundFacts
use Rattle.rb_ledger.proofs.IndexLists
use Rattle.rb_ledger.proofs.Public.Pushes
use Rattle.rb_ledger.proofs.Public.Legal
use Rattle.rb_ledger.proofs.Moves
use Rattle.rb_ledger.proofs.Overdraws
use Rattle.rb_ledger.proofs.Public.ValidClocks
use Rattle.rb_ledger.proofs.ChainFacts
use Rattle.rb_ledger.proofs.Public.Fronts
use Rattle.rb_ledger.proofs.Public.OnAccount

-- ---- the second account

-- a receiver is one of the accounts, and not the own one
received : (s : Settings) (v : Shadow) (b : Place) → SoundFacts.SoundFacts s v → receiver_of v.kind ≡ Some b →
    (b.0 < length s.starts) × (v.account.0 ≡ b.0 → ⊥)
received s v b facts e =
    let (first, second) = Members.or-false (nat_le (length s.starts) b.0) (b.0 == v.account.0)
    (ap (is_misdirected (length s.starts) v.account) (sym e) ∙ facts.receiver) in (
      above (length s.starts) b.0 first,
      λ k. Members.true≢false (sym (equal b.0 v.account.0 (sym k)) ∙ second),
    )

-- and so is a second account
pub second_apart : (s : Settings) (us : List Shadow) (h : Shadow) (b : Place) → IsValid s us → IsSound s h →
    HasTarget us h (target_of h.kind) → other_of us h.kind ≡ Some b → (b.0 < length s.starts) × (h.account.0 ≡ b.0 → ⊥)
second_apart s us h b valid sound target e = elim (Pushes.other_cases us h b target valid.unique e) [
  | inl k ↦ received s h b (SoundFacts.sound_facts s h sound) k
  | inr k ↦
      let (t, there, account, to) = k in
      let (near, apart) = received s t b (ValidClocks.member_sound s us t valid there) to in
      (near, λ e. apart (ap (λ (p : Place). p.0) account ∙ e))
]

-- the second account is one of the configuration, and isn't the own one
pub other_apart : (s : Settings) (us : List Shadow) (h : Shadow) (b : Place) → IsValid s us → Legal.MayFollow s us h →
    other_of us h.kind ≡ Some b → (b.0 < length s.starts) × (h.account.0 ≡ b.0 → ⊥)
other_apart s us h b valid may e = second_apart s us h b valid may.sound may.target e

-- what is at an index may follow what comes before it
pub may_there : (s : Settings) (us : List Shadow) (i : ℕ) (u : Shadow) → IsValid s us → slice_get us i ≡ Some u →
    Legal.MayFollow s (take i us) u
may_there s us i u valid there =
    Legal.IsValid-last s (take i us) u (subst (IsValid s) (Fronts.one_more us i u there)
    (Legal.IsValid-front s (take (i + 1) us) (drop (i + 1) us) (subst (IsValid s) (sym (take-append-drop (i + 1) us)) valid)))

-- each account that an operation is on is one of the configuration's
pub on_near : (s : Settings) (us : List Shadow) (i : ℕ) (u : Shadow) (a : Place) → IsValid s us → slice_get us i ≡ Some u →
    is_on (take i us) u a ≡ true → a.0 < length s.starts
on_near s us i u a valid there own =
    let (front, target) = Moves.target_there s us i u valid there in
    let may = may_there s us i u valid there in
    elim (OnAccount.on_sides (take i us) u a own) [
      | inl e ↦ subst (λ (p : Place). p.0 < length s.starts) e (Overdraws.sound_account s u may.sound)
      | inr e ↦ (other_apart s (take i us) u a front may e).0
    ]

-- the second account doesn't depend on what follows
pub other_whole : (s : Settings) (us : List Shadow) (i : ℕ) (u : Shadow) → IsValid s us → slice_get us i ≡ Some u →
    other_of (take i us) u.kind ≡ other_of us u.kind
other_whole s us i u valid there =
    let (front, target) = Moves.target_there s us i u valid there in
    at (target_of u.kind) target front
  where
    at : (o : Option OpName) → HasTarget (take i us) u o → IsValid s (take i us) → other_by (take i us) u.kind o ≡ other_by us u.kind o
    at None t front = refl
    at (Some x) (t, here, named, right) front =
        let whole : Among t us = subst (Among t) (take-append-drop i us) (Members.Among-left (take i us) (drop i us) t here) in
        ap (λ y. option_and_then receiver_of (kind_in (take i us) y)) (sym named)
        ∙ ap (option_and_then receiver_of) (Pushes.kind_in-named (take i us) t front.unique here
        ∙ sym (Pushes.kind_in-named us t valid.unique whole))
        ∙ ap (λ y. option_and_then receiver_of (kind_in us y)) named

-- ---- the heads of both accounts

-- a head where the own account has another one and the second account has
abbrev pub IsChanged : List Shadow → Shadow → List Head → Head → Head → Place → Head → Type 0
IsChanged us h hs f g a new =
    ((is_on us h a ≡ true) × (((h.account ≡ a) × (f ≡ new)) ⊎ ((other_of us h.kind ≡ Some a) × (g ≡ new))))
    ⊎ ((is_on us h a ≡ false) × (slice_get hs a.0 ≡ Some new))

-- what is read if two accounts have other heads: that of the own account, of the second one, or of any other
pub changed : (s : Settings) (us : List Shadow) (h : Shadow) (hs : List Head) (f g : Head) → IsConfigured s → IsValid s us →
    Legal.MayFollow s us h → length hs ≡ length s.starts
    → (a : Place) (new : Head) → slice_get (heads_at (unwrap_or (other_of us h.kind) NOWHERE).0 g (heads_at h.account.0 f hs)) a.0
    ≡ Some new → IsChanged us h hs f g a new
changed s us h hs f g configured valid may many a new e = at (other_of us h.kind) refl e
  where
    first : List Head
    first = heads_at h.account.0 f hs

    -- none of the two is the account
    off : (o : Option Place) → other_of us h.kind ≡ o → (a.0 ≡ (unwrap_or o NOWHERE).0 → ⊥) → (a.0 ≡ h.account.0 → ⊥) → is_on us h a ≡ false
    off o is other own = elim (Members.bool_cases (is_on us h a)) [ inl k ↦ absurd (neither (OnAccount.on_sides us h a k)) | inr k ↦ k ]
      where
        neither : (h.account ≡ a) ⊎ (other_of us h.kind ≡ Some a) → ⊥
        neither (inl j) = own (ap (λ (p : Place). p.0) (sym j))
        neither (inr j) = other (ap (λ o. (unwrap_or o NOWHERE).0) (sym j ∙ is))

    on_first : (o : Option Place) → other_of us h.kind ≡ o → (a.0 ≡ (unwrap_or o NOWHERE).0 → ⊥)
        → ((a.0 ≡ h.account.0) × (f ≡ new)) ⊎ ((a.0 ≡ h.account.0 → ⊥) × (slice_get hs a.0 ≡ Some new)) →
        IsChanged us h hs f g a new
    on_first o is other (inl (own, k)) = inl (OnAccount.on_own us h a (sym own), inl (same_place h.account a (sym own), k))
    on_first o is other (inr (own, k)) = inr (off o is other own, k)

    none_there : (now : List Head) → length now ≡ length hs → slice_get now a.0 ≡ Some new → a.0 ≡ NOWHERE.0 → ⊥
    none_there now same read e = omega (
      arith,
      e,
      same,
      many,
      slice_get_within now a.0 new read,
      configured.starts_of_all,
      configured.few_accounts,
    )

    at : (o : Option Place) → other_of us h.kind ≡ o → slice_get (heads_at (unwrap_or o NOWHERE).0 g first) a.0 ≡ Some new →
        IsChanged us h hs f g a new
    at o is read = either (IndexLists.get_set first (unwrap_or o NOWHERE).0 g new a.0 read)
      where
        second : (o : Option Place) → other_of us h.kind ≡ o → slice_get (heads_at (unwrap_or o NOWHERE).0 g first) a.0 ≡ Some new →
            a.0 ≡ (unwrap_or o NOWHERE).0 → g ≡ new → IsChanged us h hs f g a new
        second None is read other k =
            absurd (none_there (heads_at NOWHERE.0 g first) (length-set first NOWHERE.0 g ∙ length-set hs h.account.0 f) read other)
        second (Some b) is read other k =
            let place : b ≡ a = same_place b a (sym other) in
            inl (OnAccount.on_other us h a (is ∙ ap Some place), inr (is ∙ ap Some place, k))

        either : ((a.0 ≡ (unwrap_or o NOWHERE).0) × (g ≡ new))
            ⊎ ((a.0 ≡ (unwrap_or o NOWHERE).0 → ⊥) × (slice_get first a.0 ≡ Some new)) → IsChanged us h hs f g a new
        either (inl (other, k)) = second o is read other k
        either (inr (other, k)) = on_first o is other (IndexLists.get_set hs h.account.0 f new a.0 k)

-- changes of two heads keep their number
pub both_lengths : (hs : List Head) (i j : ℕ) (f g : Head) → length (heads_at j g (heads_at i f hs)) ≡ length hs
both_lengths hs i j f g = length-set (heads_at i f hs) j g ∙ length-set hs i f

-- with one more operation
pub heads_push : (s : Settings) (us : List Shadow) (h : Shadow) (hs : List Head) (l : Links) → IsConfigured s →
    IsValid s us → IsValid s (us ++ h ∷ []) → AreHeads s us hs → IsLinked s us h l
    → AreHeads s (us ++ h ∷ []) (heads_at (unwrap_or (other_of us h.kind) NOWHERE).0 (record {
      last = length us
          + 1;
      balance = l.other.balance;
    }) (heads_at h.account.0 (record { last = length us + 1; balance = l.own.balance }) hs))
heads_push s us h hs l configured valid longer are linked =
    ChainFacts.heads_push s us h hs _ longer are (both_lengths hs h.account.0 (unwrap_or (other_of us h.kind) NOWHERE).0 own_more
    other_more)
    (λ a new e. at a new (changed s us h hs own_more other_more configured valid (Legal.IsValid-last s us h longer) are.count a new e))
  where
    own_more : Head
    own_more = record { last = length us + 1; balance = l.own.balance }

    other_more : Head
    other_more = record { last = length us + 1; balance = l.other.balance }

    at : (a : Place) (new : Head) → IsChanged us h hs own_more other_more a new → ChainFacts.IsCounted s us h hs a new
    at a new (inr off) = inr off
    at a new (inl (on, inl (own, is))) =
        inl (
          on,
          ap (λ (k : Head). k.last) (sym is),
          ap (λ (k : Head). pos k.balance) (sym is) ∙ linked.own.balance ∙ ap (bal s (us ++ h ∷ [])) own,
        )
    at a new (inl (on, inr (other, is))) =
        inl (
          on,
          ap (λ (k : Head). k.last) (sym is),
          ap (λ (k : Head). pos k.balance) (sym is) ∙ (linked.other a other).balance,
        )

-- without the last operation
pub heads_front : (s : Settings) (us : List Shadow) (h : Shadow) (hs : List Head) (l : Links) → IsConfigured s →
    IsValid s us → IsValid s (us ++ h ∷ []) → AreHeads s (us ++ h ∷ []) hs → IsLinked s us h l
    → AreHeads s us (heads_at (unwrap_or (other_of us h.kind) NOWHERE).0
    (record { last = l.other.earlier; balance = unwrap_or (option_map (λ a. cents (bal s us a)) (other_of us h.kind)) 0 })
    (heads_at h.account.0 (record { last = l.own.earlier; balance = cents (bal s us h.account) }) hs))
heads_front s us h hs l configured valid longer are linked =
    ChainFacts.heads_front s us h hs _ longer are (both_lengths hs h.account.0 (unwrap_or (other_of us h.kind) NOWHERE).0 own_less
    other_less)
    (λ a new e. at a new (changed s us h hs own_less other_less configured valid (Legal.IsValid-last s us h longer) are.count a new e))
  where
    own_less : Head
    own_less = record { last = l.own.earlier; balance = cents (bal s us h.account) }

    other_less : Head
    other_less = record { last = l.other.earlier; balance = unwrap_or (option_map (λ a. cents (bal s us a)) (other_of us h.kind)) 0 }

    at : (a : Place) (new : Head) → IsChanged us h hs own_less other_less a new → ChainFacts.IsUncounted s us h hs a new
    at a new (inr off) = inr off
    at a new (inl (on, inl (own, is))) = inl (
      on,
      subst (λ (k : Head). IsLast us a k.last) is (subst (λ (b : Place). IsLast us b l.own.earlier) own linked.own.earlier),
      ap (λ (k : Head). pos k.balance) (sym is) ∙ Legal.kept_balance s us h.account _ valid refl ∙ ap (bal s us) own,
    )
    at a new (inl (on, inr (other, is))) = inl (
      on,
      subst (λ (k : Head). IsLast us a k.last) is (linked.other a other).earlier,
      ap (λ (k : Head). pos k.balance) (sym is) ∙ Legal.kept_balance s us a _ valid
          (ap (λ o. unwrap_or (option_map (λ a. cents (bal s us a)) o) 0) other),
    )
