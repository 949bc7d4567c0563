-- A cancelled operation leaves every balance as if it had never been made.
use Rattle.std.proofs.Common.{◌≡◌, true, false, cond, not, ◌||◌, List, [], ◌∷◌, ◌++◌, refl, ap, sym, ◌∙◌, arith, subst, Some}
use Rattle.std.specs.Prelude.{◌+ℤ◌, is_some}
use Rattle.std.proofs.lemmas.Int.{ints}
use Rattle.rb_money.specs.Settings.{Settings}
use Rattle.rb_money.specs.declared.place.Place.{Place}
use Rattle.rb_shadow.specs.declared.op_name.OpName.{OpName}
use Rattle.rb_shadow.specs.declared.shadow.Shadow.{Shadow}
use Rattle.rb_shadow.specs.Operations.{Among, IsUnique, bal, delta, find_in, is_cancelled, names, same_name, target_of, total}
use Rattle.rb_shadow.proofs.Public.Balances
use Rattle.rb_shadow.proofs.Public.Lookups
use Rattle.rb_shadow.proofs.Public.Members
use Rattle.rb_shadow.proofs.Public.Totals
use Rattle.rb_ledger.proofs.Public.Pushes
use Rattle.rb_scratch.specs.Originals.{left_out}

-- if no operation has the name, none is left out
none_left_out : (x : OpName) (us : List Shadow) → names us x ≡ false → left_out x us ≡ us
none_left_out x [] e = refl
none_left_out x (u ∷ us) e =
    let apart = Members.or-false (same_name u.name x) (names us x) e in
    ap (λ b. cond (not b) (u ∷ left_out x us) (left_out x us)) apart.0 ∙ ap (λ ws. u ∷ ws) (none_left_out x us apart.1)

-- the one operation of the name is left out
one_left_out : (x : OpName) (front back : List Shadow) (t : Shadow) → same_name t.name x ≡ true → names (front ++ back) x ≡ false →
    left_out x (front ++ t ∷ back) ≡ front ++ back
one_left_out x [] back t is absent = ap (λ b. cond (not b) (t ∷ left_out x back) (left_out x back)) is ∙ none_left_out x back absent
one_left_out x (u ∷ front) back t is absent =
    let apart = Members.or-false (same_name u.name x) (names (front ++ back) x) absent in
    ap (λ b. cond (not b) (u ∷ left_out x (front ++ t ∷ back)) (left_out x (front ++ t ∷ back))) apart.0
    ∙ ap (λ ws. u ∷ ws) (one_left_out x front back t is apart.1)

-- an operation that is no cancellation changes nothing of what is cancelled
same_cancelled : (front back : List Shadow) (t : Shadow) (y : OpName) → is_some (target_of t.kind) ≡ false →
    is_cancelled (front ++ t ∷ back) y ≡ is_cancelled (front ++ back) y
same_cancelled front back t y plain =
    Pushes.is_cancelled-append front (t ∷ back) y
    ∙ ap (λ b. is_cancelled front y || (b || is_cancelled back y)) (Pushes.cancels-plain t.kind y plain)
    ∙ sym (Pushes.is_cancelled-append front back y)

-- the balances without an operation that counts are less by what it moved
less_its_delta : (s : Settings) (front back : List Shadow) (t : Shadow) (q : Place) → is_some (target_of t.kind) ≡ false →
    is_cancelled (front ++ t ∷ back) t.name ≡ false → bal s (front ++ back) q +ℤ delta t q ≡ bal s (front ++ t ∷ back) q
less_its_delta s front back t q plain free =
    let us = front ++ t ∷ back in
    let was : Balances.worth us q t ≡ delta t q = Pushes.worth-kept us q t plain free in
    let rest : total (Balances.worth us q) (front ++ back) ≡ total (Balances.worth (front ++ back) q) (front ++ back) =
    Totals.total-same (Balances.worth us q) (Balances.worth (front ++ back) q) (front
    ++ back) (λ u k. Balances.worth-same us (front ++ back) q u (same_cancelled front back t u.name plain)) in
    omega (
      arith,
      ints,
      was,
      rest,
      Balances.bal-worth s us q,
      Balances.bal-worth s (front ++ back) q,
      Totals.total-middle (Balances.worth us q) front back t,
    )

-- after the first cancellation of an operation each balance is that of the list without it
pub cancelled_left_out : (s : Settings) (us : List Shadow) (v t : Shadow) (x : OpName) (q : Place) → target_of v.kind ≡ Some x → IsUnique us
    → find_in us x ≡ Some t → is_some (target_of t.kind) ≡ false → is_cancelled us x ≡ false
    → bal s (us ++ v ∷ []) q ≡ bal s (left_out x us) q
cancelled_left_out s us v t x q target unique found plain free = at (Members.split_at us t there.0)
  where
    there : Among t us × (t.name ≡ x)
    there = Lookups.found us x t found

    own : is_cancelled us t.name ≡ false
    own = ap (is_cancelled us) there.1 ∙ free

    taken : bal s (us ++ v ∷ []) q +ℤ delta t q ≡ bal s us q
    taken = Pushes.bal-push_first s us v t q (target ∙ ap Some (sym there.1)) unique there.0 plain own

    at : (front : List Shadow) × (back : List Shadow) × (us ≡ front ++ t ∷ back) → bal s (us ++ v ∷ []) q ≡ bal s (left_out x us) q
    at (front, back, e) =
        let apart : IsUnique (front ++ back) × (names (front ++ back) t.name ≡ false) =
        Members.IsUnique-middle front back t (subst IsUnique e unique) in
        let absent : names (front ++ back) x ≡ false = ap (names (front ++ back)) (sym there.1) ∙ apart.1 in
        let is : same_name t.name x ≡ true = ap (same_name t.name) (sym there.1) ∙ Members.same_name-refl t.name in
        let left : left_out x us ≡ front ++ back = ap (left_out x) e ∙ one_left_out x front back t is absent in
        let less : bal s (front ++ back) q +ℤ delta t q ≡ bal s (front ++ t ∷ back) q =
        less_its_delta s front back t q plain (ap (λ ws. is_cancelled ws t.name) (sym e) ∙ own) in
        omega (arith, ints, taken, less, ap (λ ws. bal s ws q) e, ap (λ ws. bal s ws q) left)
