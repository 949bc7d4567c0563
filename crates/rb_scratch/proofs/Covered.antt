-- An operation that is planned and allowed leaves no account less than nothing.
use Rattle.std.proofs.Common.{◌≡◌, ℕ, Bool, true, false, cond, ◌&&◌, List, [], ◌∷◌, ◌++◌, length, refl, ap, sym}
use Rattle.std.proofs.Common.{◌∙◌, arith, subst, Some, None, inl, inr}
use Rattle.std.specs.Prelude.{pos, neg_ℤ, ◌+ℤ◌, ◌≤ℤ◌, nat_le, ◌==◌, option_and_then, is_some, int_lt}
use Rattle.std.proofs.lemmas.Int.{ints}
use Rattle.rb_money.specs.Settings.{Settings}
use Rattle.rb_money.specs.declared.place.Place.{Place}
use Rattle.rb_shadow.specs.declared.shadow.Shadow.{Shadow}
use Rattle.rb_shadow.specs.declared.op_name.OpName.{OpName}
use Rattle.rb_shadow.specs.declared.kind.Kind.{Kind}
use Rattle.rb_shadow.specs.declared.kind.Kind.TheVariants.{Withdraw, Cancel, Transfer}
use Rattle.rb_shadow.specs.declared.colour.Colour.{Colour}
use Rattle.rb_shadow.specs.declared.colour.Colour.TheVariants.{Blue as BlueColour, Red as RedColour}
use Rattle.rb_shadow.specs.Operations.{colour_in}
use Rattle.rb_shadow.specs.Operations.{colour_of, kind_in, target_of, bal, find_in, delta, moved}
use Rattle.rb_shadow.specs.Operations.{receiver_of, other_of, arrived, is_on, accounts_on}
use Rattle.rb_shadow.proofs.Public.SoundFacts.{is_misdirected}
use Rattle.rb_shadow.proofs.Public.Members
use Rattle.rb_ledger.specs.Valid.{IsValid, HasTarget}
use Rattle.rb_ledger.specs.Checks.{overdraws}
use Rattle.rb_money.proofs.Public.Tests.{number_same}
use Rattle.rb_ledger.proofs.Public.Legal
use Rattle.rb_ledger.proofs.Public.Pushes
use Rattle.rb_token.specs.Token.{Token}
use Rattle.rb_scratch.specs.Requests.{Plan, next_name}
use Rattle.rb_scratch.proofs.Public.Made.{IsAllowed}
use Rattle.rb_scratch.proofs.Planned.{Cancels, IsPlanned}
use Rattle.rb_scratch.proofs.Tokens.{enough}
use Rattle.rb_ledger.proofs.Public.OnAccount
use Rattle.rb_scratch.proofs.Public.Fits.{shadow_of, uncancelled, blue_gives, not_overdrawn, turned, directed}

covered_plain : (s : Settings) (me : ℕ) (us : List Shadow) (p : Plan) (k : Kind) → IsValid s us → p.kind ≡ k → is_some (target_of k) ≡ false
    → pos 0 ≤ℤ (bal s us p.account +ℤ moved k p.amount) → pos 0 ≤ℤ bal s (us ++ shadow_of me us p ∷ []) p.account
covered_plain s me us p k valid e plain ok =
    let own : delta (shadow_of me us p) p.account ≡ moved k p.amount =
    Pushes.own_delta (shadow_of me us p) p.account refl ∙ ap (λ j. moved j p.amount) e in
    omega (
      arith,
      ints,
      ok,
      own,
      Pushes.bal-push_plain s us (shadow_of me us p) p.account (ap (λ k. is_some (target_of k)) e
          ∙ plain) (uncancelled s me us p valid),
    )

covered_cancel : (s : Settings) (me : ℕ) (us : List Shadow) (token : Token) (p : Plan) (x : OpName) → IsValid s us → p.kind ≡ Cancel x →
    (c : Cancels us x p) → HasTarget us (shadow_of me us p) (target_of p.kind)
    → IsAllowed s us token (shadow_of me us p) (next_name me us (colour_in us p.kind))
    → (a : Place) → is_on us (shadow_of me us p) a ≡ true → pos 0 ≤ℤ bal s (us ++ shadow_of me us p ∷ []) a
covered_cancel s me us token p x valid e c target fair a side = at (colour_in us p.kind) refl
  where
    found : find_in us x ≡ Some c.target
    found = ap (find_in us) (sym c.named) ∙ Pushes.finds us c.target valid.unique c.there

    kind_is : kind_in us x ≡ Some c.target.kind
    kind_is = ap (kind_in us) (sym c.named) ∙ Pushes.kind_in-named us c.target valid.unique c.there

    second : (b c : Bool) → b ≡ true → (b && c) ≡ false → c ≡ false
    second true c q r = r
    second false c q r = cc

    -- what is cancelled by a blue one has no second account
    alone : colour_of (Cancel x) (Some c.target.kind) ≡ BlueColour → other_of us (shadow_of me us p).kind ≡ Some a → ⊥
    alone q k = none c.target.kind q (sym (ap (option_and_then receiver_of) kind_is) ∙ sym (ap (λ j. other_of us j) e) ∙ k)
      where
        none : (k : Kind) → colour_of (Cancel x) (Some k) ≡ BlueColour → receiver_of k ≡ Some a → ⊥
        none Withdraw q h = cc
        none _ q h = cc

    at : (d : Colour) → colour_in us p.kind ≡ d → pos 0 ≤ℤ bal s (us ++ shadow_of me us p ∷ []) a
    at RedColour q =
        let none : overdraws s us (shadow_of me us p) ≡ false = second (is_some (target_of p.kind)) (overdraws s us (shadow_of me us p))
        (ap (λ k. is_some (target_of k)) e) (not_overdrawn s me us token (shadow_of me us p) (colour_in us p.kind) q fair) in
        Legal.covers_nothing _ (Legal.none_of (λ (b : Place). int_lt (bal s (us ++ shadow_of me us p ∷ []) b) (pos 0))
        (accounts_on us (shadow_of me us p)) a none side)
    at BlueColour q =
        let coloured : colour_of (Cancel x) (Some c.target.kind) ≡ BlueColour =
        ap (colour_of (Cancel x)) (sym kind_is) ∙ ap (λ j. colour_of j (option_and_then (kind_in us) (target_of j))) (sym e) ∙ q in
        let gives : pos 0 ≤ℤ neg_ℤ (moved c.target.kind p.amount) = blue_gives x c.target.kind p.amount coloured in
        let back : Pushes.change us (shadow_of me us p) p.account ≡ neg_ℤ (moved c.target.kind p.amount) =
        ap (λ j. Pushes.change_by us (shadow_of me us p) (target_of j) p.account) e
        ∙ Pushes.change_back us (shadow_of me us p) c.target x valid.unique
        (subst (λ j. HasTarget us (shadow_of me us p) (target_of j)) e target) found c.free in
        let own : pos 0 ≤ℤ bal s (us ++ shadow_of me us p ∷ []) p.account =
        omega (
          arith,
          ints,
          gives,
          back,
          Legal.covers s us p.account valid,
          Pushes.bal-push s us (shadow_of me us p) p.account valid.unique (uncancelled s me us p valid) target,
        ) in
        elim (OnAccount.on_sides us (shadow_of me us p) a side) [
          | inl k ↦ subst (λ (b : Place). pos 0 ≤ℤ bal s (us ++ shadow_of me us p ∷ []) b) k own
          | inr k ↦ absurd (alone coloured k)
        ]

-- an operation without a target, which leaves its own account no less than nothing, leaves so its second one too
covered_sides : (s : Settings) (me : ℕ) (us : List Shadow) (p : Plan) (k : Kind) → IsValid s us → p.kind ≡ k → target_of k ≡ None →
    is_misdirected (length s.starts) p.account (receiver_of k) ≡ false → pos 0 ≤ℤ bal s (us ++ shadow_of me us p ∷ []) p.account
    → (a : Place) → is_on us (shadow_of me us p) a ≡ true → pos 0 ≤ℤ bal s (us ++ shadow_of me us p ∷ []) a
covered_sides s me us p k valid e plain right own a side = elim (OnAccount.on_sides us (shadow_of me us p) a side) [
  | inl h ↦ subst (λ (b : Place). pos 0 ≤ℤ bal s (us ++ shadow_of me us p ∷ []) b) h own
  | inr h ↦ other (sym (ap (λ o. Pushes.other_by us k o) plain) ∙ sym (ap (λ j. other_of us j) e) ∙ h)
]
  where
    apart : (b : Place) → is_misdirected (length s.starts) p.account (Some b) ≡ false → (p.account.0 == b.0) ≡ false
    apart b q = turned b.0 p.account.0 (Members.or-false (nat_le (length s.starts) b.0) (b.0 == p.account.0) q).1

    other : receiver_of k ≡ Some a → pos 0 ≤ℤ bal s (us ++ shadow_of me us p ∷ []) a
    other h =
        let off : (p.account.0 == a.0) ≡ false = apart a (ap (is_misdirected (length s.starts) p.account) (sym h) ∙ right) in
        let more : delta (shadow_of me us p) a ≡ pos p.amount =
        ap (λ c. cond c (moved p.kind p.amount) (arrived (receiver_of p.kind) p.amount a)) off
        ∙ ap (λ j. arrived (receiver_of j) p.amount a) e ∙ ap (λ o. arrived o p.amount a) h
        ∙ ap (λ c. cond c (pos p.amount) (pos 0)) (number_same a.0) in
        omega (
          arith,
          ints,
          more,
          Legal.covers s us a valid,
          Pushes.bal-push_plain s us (shadow_of me us p) a
              (ap (λ k. is_some (target_of k)) e ∙ ap is_some plain) (uncancelled s me us p valid),
        )

-- what is planned and allowed leaves none of its accounts less than nothing
pub covered : (s : Settings) (me : ℕ) (us : List Shadow) (token : Token) (p : Plan) (k : Kind) → IsValid s us → p.kind ≡ k
    → IsPlanned s us p k
    → HasTarget us (shadow_of me us p) (target_of p.kind)
    → IsAllowed s us token (shadow_of me us p) (next_name me us (colour_in us p.kind))
    → (a : Place) → is_on us (shadow_of me us p) a ≡ true → pos 0 ≤ℤ bal s (us ++ shadow_of me us p ∷ []) a
covered s me us token p Withdraw valid e h target fair =
    covered_sides s me us p Withdraw valid e refl refl (covered_plain s me us p Withdraw valid e refl
    (let some : pos p.amount ≤ℤ bal s us p.account = enough (bal s us p.account) p.amount h.1 in omega (arith, ints, some)))
covered s me us token p (Transfer to) valid e (ask, known, account, apart) target fair =
    covered_sides s me us p (Transfer to) valid e refl (directed s p to account apart)
    (covered_plain s me us p (Transfer to) valid e refl (let some : pos p.amount ≤ℤ bal s us p.account = enough (bal s us p.account)
    p.amount known in omega (arith, ints, some)))
covered s me us token p (Cancel x) valid e h target fair = covered_cancel s me us token p x valid e h target fair
covered s me us token p k valid e h target fair = covered_sides s me us p k valid e refl refl
    (covered_plain s me us p k valid e refl (omega (arith, ints, Legal.covers s us p.account valid)))
