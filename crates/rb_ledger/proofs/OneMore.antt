-- The money that one more operation moves, and the balances with it.
use Rattle.rb_ledger.proofs.Words.{◌≡◌, ℕ, ◌+◌, ◌-◌, ◌≤◌, false, List, [], ◌∷◌, ◌++◌, ap, sym, ◌∙◌, subst, cond, true}
use Rattle.rb_ledger.proofs.Words.{arith, Some, None, pos, neg_ℤ, ◌+ℤ◌, ints, Settings, Place, Shadow, OpName, bal}
use Rattle.rb_ledger.proofs.Words.{find_in, is_cancelled, target_of, IsUnique, moved, other_of, IsValid, HasTarget}
use Rattle.rb_ledger.proofs.Words.{change, change_by, given_back}
use Rattle.rb_ledger.proofs.Public.Pushes
use Rattle.rb_ledger.proofs.Public.Legal
use Rattle.rb_ledger.proofs.Others

-- the balance of its own account with one more operation
pub with_seen : (s : Settings) (us : List Shadow) (h : Shadow) (balance added taken : ℕ) → IsValid s us → IsValid s (us ++ h ∷ [])
    → pos balance ≡ bal s us h.account → pos added ≡ pos taken +ℤ change us h h.account →
    (taken ≤ balance + added) × (pos (balance + added - taken) ≡ bal s (us ++ h ∷ []) h.account)
with_seen s us h balance added taken valid longer low sums =
    let may = Legal.IsValid-last s us h longer in
    let pushed : bal s (us ++ h ∷ []) h.account ≡ bal s us h.account +ℤ change us h h.account =
    Pushes.bal-push s us h h.account valid.unique (Legal.fresh_uncancelled us h.name valid.targets may.fresh) may.target in
    let least : taken ≤ balance + added = omega (arith, ints, low, sums, pushed, may.covered h.account) in
    (least, omega (arith, ints, low, sums, pushed, least))

-- on its second account it is the other way
pub other_seen : (s : Settings) (us : List Shadow) (h : Shadow) (b : Place) (balance added taken : ℕ) → IsValid s us →
    IsValid s (us ++ h ∷ []) → other_of us h.kind ≡ Some b
    → pos balance ≡ bal s us b → pos added ≡ pos taken +ℤ change us h h.account →
    (added ≤ balance + taken) × (pos (balance + taken - added) ≡ bal s (us ++ h ∷ []) b)
other_seen s us h b balance added taken valid longer other low sums =
    let may = Legal.IsValid-last s us h longer in
    let pushed : bal s (us ++ h ∷ []) b ≡ bal s us b +ℤ change us h b =
    Pushes.bal-push s us h b valid.unique (Legal.fresh_uncancelled us h.name valid.targets may.fresh) may.target in
    let back : change us h b ≡ neg_ℤ (change us h h.account) = Pushes.change_other us h b valid.unique may.target other
    (Others.other_apart s us h b valid may other).1 in
    let least : added ≤ balance + taken = omega (arith, ints, low, sums, pushed, back, may.covered b) in
    (least, omega (arith, ints, low, sums, pushed, back, least))

-- what an operation without a target moves
pub moved_plain : (us : List Shadow) (h : Shadow) (added taken : ℕ) → pos added ≡ pos taken +ℤ moved h.kind h.amount →
    None ≡ target_of h.kind → pos added ≡ pos taken +ℤ change us h h.account
moved_plain us h added taken sums none = omega (arith, ints, sums, Pushes.change_plain us h (sym none))

-- with a target that is cancelled already nothing is moved
pub moved_none : (us : List Shadow) (h : Shadow) (x : OpName) → target_of h.kind ≡ Some x → is_cancelled us x ≡ true →
    pos 0 ≡ pos 0 +ℤ change us h h.account
moved_none us h x is cancelled =
    let none : change us h h.account ≡ pos 0 = ap (λ o. change_by us h o h.account) is
    ∙ ap (λ b. cond b (pos 0) (given_back (find_in us x) h.account)) cancelled in
    omega (arith, ints, none)

-- what it moves with a target that isn't cancelled yet: what the target moved, the other way
pub moved_back : (us : List Shadow) (h t : Shadow) (x : OpName) (added taken : ℕ) → IsUnique us → HasTarget us h (target_of h.kind) →
    target_of h.kind ≡ Some x → Some t ≡ find_in us x → false ≡ is_cancelled us x → pos added ≡ pos taken +ℤ moved t.kind h.amount
    → pos taken ≡ pos added +ℤ change us h h.account
moved_back us h t x added taken unique target is found free sums =
    let same : change us h h.account ≡ change_by us h (Some x) h.account = ap (λ o. change_by us h o h.account) is in
    omega (arith, ints, sums, same, Pushes.change_back us h t x unique (subst (HasTarget us h) is target) (sym found) (sym free))
