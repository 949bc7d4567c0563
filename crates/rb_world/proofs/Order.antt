-- The operations made are a RedBlue order.
use Rattle.std.proofs.Common.{◌≡◌, true, false, List, [], ◌∷◌, ◌++◌, ap, sym, ◌∙◌, ◌⊎◌, inl, inr, subst}
use Rattle.rb_money.specs.Settings.{Settings}
use Rattle.rb_shadow.specs.declared.shadow.Shadow.{Shadow}
use Rattle.rb_shadow.specs.Operations.{Among, AreOrdered, AreSame, EachEntry, IsUnique, IsWithin, Precedes, is_red, names, past}
use Rattle.rb_shadow.proofs.Public.Members
use Rattle.rb_shadow.proofs.Public.Balances
use Rattle.rb_shadow.specs.Laws.{IsPart}
use Rattle.rb_ledger.specs.Valid.{IsValid}
use Rattle.rb_ledger.proofs.Public.Legal
use Rattle.rb_ledger.proofs.Public.Pasts
use Rattle.rb_ledger.proofs.Public.Pasts.{HasValidPast, HaveValidPasts}

-- what is known of the operations made: each follows a valid list of just its past
pub record IsOrderedSet (s : Settings) (all : List Shadow) : Type 0 where
  pub unique : IsUnique all
  pub in_turn : EachEntry all (λ before v. IsWithin (past v) (names before))
  pub pasts : HaveValidPasts s all
  pub reds : (u v : Shadow) → Among u all → Among v all → is_red u.name ≡ true → is_red v.name ≡ true → AreOrdered u v
  pub homes : (u v : Shadow) → Among u all → Among v all → u.home ≡ v.home → AreOrdered u v

-- ---- one more operation is made, after just those of the list

-- an operation with a new name, valid after a part of those made: the part is just its past, and has all that were
-- made at its home and, if it is red, every red one
pub record IsNew (s : Settings) (all us : List Shadow) (v : Shadow) : Type 0 where
  pub part : IsPart us all
  pub valid : IsValid s (us ++ v ∷ [])
  pub is_past : AreSame (names us) (past v)
  pub fresh : names all v.name ≡ false
  pub reds : is_red v.name ≡ true → (u : Shadow) → Among u all → is_red u.name ≡ true → names us u.name ≡ true
  pub homes : (u : Shadow) → Among u all → u.home ≡ v.home → names us u.name ≡ true

-- a list is a part of itself with one more
pub part-more : (us : List Shadow) (v : Shadow) → IsPart us (us ++ v ∷ [])
part-more us v u h = Members.Among-left us (v ∷ []) u h

-- what is among a list with one more
pub last_cases : (us : List Shadow) (v u : Shadow) → Among u (us ++ v ∷ []) → Among u us ⊎ (u ≡ v)
last_cases us v u h = elim (Members.Among-cases us (v ∷ []) u h) [ inl k ↦ inl k | inr k ↦ elim k [ inl e ↦ inr e | inr e ↦ elim e [ ] ] ]

-- a list that has one more is a part of the set if the set has it
pub part-last : (all us : List Shadow) (v : Shadow) → IsPart us all → Among v all → IsPart (us ++ v ∷ []) all
part-last all us v part there u h = elim (last_cases us v u h) [ inl k ↦ part u k | inr e ↦ subst (λ w. Among w all) (sym e) there ]

-- an ordered set stays one with a new operation after it
pub set_more : (s : Settings) (all us : List Shadow) (v : Shadow) → IsOrderedSet s all → IsNew s all us v → IsOrderedSet s (all ++ v ∷ [])
set_more s all us v o n = record {
  unique = Members.IsUnique-push all v o.unique n.fresh;
  in_turn = Legal.each_push (λ before u. IsWithin (past u) (names before)) all v o.in_turn
      (λ x h. Balances.names-part us all n.part x (n.is_past x ∙ h));
  pasts = λ u h. elim (last_cases all v u h) [
    | inl k ↦ Pasts.among_more s all (all ++ v ∷ []) u (part-more all v) (o.pasts u k)
    | inr e ↦ subst (HasValidPast s (all ++ v ∷ [])) (sym e) newest
  ];
  reds = λ a b h k p q. ordered (λ c d. (is_red c.name ≡ true) × (is_red d.name
      ≡ true)) (λ c d e f r. o.reds c d e f r.0 r.1) (λ c e r. after c (n.reds r.1 c e r.0)) (λ c e r. after c (n.reds r.0 c e r.1)) a b h k
      (p, q);
  homes = λ a b h k p. ordered (λ c d. c.home ≡ d.home) (λ c d e f r. o.homes c d e f r) (λ c e r. after c (n.homes c e r))
      (λ c e r. after c (n.homes c e (sym r))) a b h k p;
}
  where
    newest : HasValidPast s (all ++ v ∷ []) v
    newest = record { before = us; part = λ u h. part-more all v u (n.part u h); is_past = n.is_past; valid = n.valid }

    -- the new one follows what the list has
    after : (u : Shadow) → names us u.name ≡ true → Precedes u v
    after u k = sym (n.is_past u.name) ∙ k

    ordered : (Q : Shadow → Shadow → Type 0) → ((a b : Shadow) → Among a all → Among b all → Q a b → AreOrdered a b) →
        ((a : Shadow) → Among a all → Q a v → Precedes a v) → ((a : Shadow) → Among a all → Q v a → Precedes a v)
        → (a b : Shadow) → Among a (all ++ v ∷ []) → Among b (all ++ v ∷ []) → Q a b → AreOrdered a b
    ordered Q old one two a b h k q ne = elim (last_cases all v a h) [
      | inl c ↦ elim (last_cases all v b k) [
        | inl d ↦ old a b c d q ne
        | inr e ↦ inl (subst (Precedes a) (sym e) (one a c (subst (Q a) e q)))
      ]
      | inr e ↦ elim (last_cases all v b k) [
        | inl d ↦ inr (subst (Precedes b) (sym e) (two b d (subst (λ (y : Shadow). Q y b) e q)))
        | inr f ↦ absurd (ne (ap (λ (y : Shadow). y.name) (e ∙ sym f)))
      ]
    ]
