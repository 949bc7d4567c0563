-- Reads to make the record of an operation, if all the operations are there and not only those before it.
use Rattle.rb_ledger.proofs.Words.{◌≡◌, ℕ, ◌+◌, ◌-◌, List, take, drop, refl, ap, sym, ◌∙◌, subst, arith, inr, Some}
use Rattle.rb_ledger.proofs.Words.{None, length, length-take-le, Option, IfSome, take-append-drop, slice_get_within}
use Rattle.rb_ledger.proofs.Words.{Settings, Place, OpName, Shadow, Among, names, target_of, other_of, IsValid}
use Rattle.rb_ledger.proofs.Words.{HasTarget, operation_at, position_of, IsOn}
use Rattle.rb_shadow.proofs.Public.Members
use Rattle.rb_ledger.proofs.CancelFacts
use Rattle.rb_ledger.proofs.FoundNames.{entry_there}
use Rattle.rb_ledger.proofs.Moves
use Rattle.rb_ledger.proofs.Others
use Rattle.rb_ledger.proofs.Public.Fronts
use Rattle.rb_ledger.proofs.Public.OnAccount

-- the position of an operation is one more than how many come before it
pub entry_after : (us : List Shadow) (p : ℕ) (u : Shadow) → Some u ≡ operation_at us p → p ≡ length (take (p - 1) us) + 1
entry_after us p u e =
    let (some, there) = entry_there us p u e in
    let near = slice_get_within us (p - 1) u there in
    omega (arith, some, near, length-take-le (p - 1) us (omega (arith, near)))

-- an operation is on its second account, if there is one
pub second_on : (us : List Shadow) (p : ℕ) (u : Shadow) (r : Option Place) → Some u ≡ operation_at us p →
    r ≡ other_of (take (p - 1) us) u.kind → IfSome r (λ b. IsOn us b p)
second_on us p u None e is = tt
second_on us p u (Some b) e is =
    let (some, there) = entry_there us p u e in
    inr (p - 1, u, omega (arith, some), there, OnAccount.on_other (take (p - 1) us) u b (sym is))

-- its second account is the same among all the operations as among those before it
pub second_before : (s : Settings) (us vs : List Shadow) (p : ℕ) (u : Shadow) (r : Option Place) → IsValid s us →
    Some u ≡ operation_at us p → vs ≡ us → r ≡ other_of vs u.kind → r ≡ other_of (take (p - 1) us) u.kind
second_before s us vs p u r valid e seen is = is ∙ ap (λ ws. other_of ws u.kind) seen
    ∙ sym (Others.other_whole s us (p - 1) u valid (entry_there us p u e).1)

-- and so is the position of its target
pub target_before : (s : Settings) (us vs : List Shadow) (p n : ℕ) (u : Shadow) → IsValid s us → Some u ≡ operation_at us p → vs ≡ us →
    n ≡ position_of vs (target_of u.kind) → n ≡ position_of (take (p - 1) us) (target_of u.kind)
target_before s us vs p n u valid e seen is = is ∙ ap (λ ws. position_of ws (target_of u.kind)) seen
    ∙ at (target_of u.kind) (Moves.target_there s us (p - 1) u valid (entry_there us p u e).1).1
  where
    at : (o : Option OpName) → HasTarget (take (p - 1) us) u o → position_of us o ≡ position_of (take (p - 1) us) o
    at None t = refl
    at (Some x) (t, here, named, right) =
        let whole : Among t us = subst (Among t) (take-append-drop (p - 1) us)
        (Members.Among-left (take (p - 1) us) (drop (p - 1) us) t here) in
        let (i, v, first, called, stood, found) = CancelFacts.found_at 1 (take (p - 1) us) x
        (ap (names (take (p - 1) us)) (sym named) ∙ Members.named (take (p - 1) us) t here) in
        let (j, w, among, known, stands, seen) = CancelFacts.found_at 1 us x (ap (names us) (sym named) ∙ Members.named us t whole) in
        omega (
          arith,
          stood,
          stands,
          CancelFacts.stands_once us i j v w valid.unique (Fronts.get_take (p - 1) us i v first).1 among
              (called ∙ sym known),
        )
