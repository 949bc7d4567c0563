-- The operation at a position, and under a name that was found.
use Rattle.rb_ledger.proofs.Words.{◌≡◌, ℕ, zero, suc, ◌-◌, ◌<◌, ◌≤◌, false, cond, List, [], ◌∷◌, length, get_or, refl}
use Rattle.rb_ledger.proofs.Words.{ap, sym, ◌∙◌, arith, inl, inr, Some, None, slice_get, ◌==◌, Option, option_map}
use Rattle.rb_ledger.proofs.Words.{option_and_then, unwrap_or, nat_tests, slice_get_within, get_or_from_slice_get}
use Rattle.rb_ledger.proofs.Words.{Place, Shadow, OpName, names, find_in, same_shadow, Among, kind_in, receiver_of}
use Rattle.rb_ledger.proofs.Words.{target_of, other_of, Kind, Deposit, Withdraw, Declined, Interest, Cancel, Transfer}
use Rattle.rb_ledger.proofs.Words.{operation_at, find_position, position_from, position_of, HasTarget}
use Rattle.rb_shadow.proofs.Public.Members
use Rattle.rb_money.proofs.Public.Tests
use Rattle.rb_ledger.proofs.CancelFacts
use Rattle.rb_ledger.proofs.Overdraws
use Rattle.rb_ledger.proofs.Public.OnAccount.{element}
use Rattle.rb_ledger.proofs.Public.Pushes.{other_by}
use Rattle.rb_shadow.proofs.Public.Lookups

-- what a list has at an index is one of its operations
pub among : (us : List Shadow) (i : ℕ) (u : Shadow) → slice_get us i ≡ Some u → Among u us
among [] i u e = cc
among (v ∷ us) zero u e = inl (let a : v ≡ u = cc in sym a)
among (v ∷ us) (suc i) u e = inr (among us i u e)

-- an operation at a position is in the list, one index before it
pub entry_there : (us : List Shadow) (p : ℕ) (u : Shadow) → Some u ≡ operation_at us p → (0 < p) × (slice_get us (p - 1) ≡ Some u)
entry_there us zero u e = cc
entry_there us (suc p) u e = (omega arith, sym (e ∙ ap (λ b. cond b None (slice_get us (suc p - 1))) (test p)))
  where
    test : (p : ℕ) → (suc p == 0) ≡ false
    test p = grind (arith, nat_tests)

-- at each position but 0 of those there are is an operation
pub none_there : (us : List Shadow) (p : ℕ) → None ≡ operation_at us p → p ≤ length us → p ≡ 0
none_there us zero e low = refl
none_there us (suc p) e low =
    let (u, there) = element us (suc p - 1) (omega arith) in
    let same : (suc p == 0) ≡ false = grind (arith, nat_tests) in
    let both : None ≡ Some u = e ∙ ap (λ b. cond b None (slice_get us (suc p - 1))) same ∙ there in cc

-- what is at the position that was found
pub found_there : (us : List Shadow) (x : OpName) (p : ℕ) → Some p ≡ find_position us x →
    (t : Shadow) × (operation_at us p ≡ Some t) × (t.name ≡ x) × (find_in us x ≡ Some t)
found_there us x p e = elim (Members.bool_cases (names us x)) [
  | inl d ↦
      let (q, t, there, named, stood, found) = CancelFacts.found_at 1 us x d in
      let one : Some p ≡ Some (position_from 1 us x) = e ∙ ap (λ b. cond b (Some (position_from 1 us x)) None) d in
      let is : p ≡ position_from 1 us x = cc in
      let back : p - 1 ≡ q = omega (arith, is, stood) in (
        t,
        ap (λ b. cond b None (slice_get us (p - 1))) (Tests.positive p (omega (arith, is, stood))) ∙ ap (slice_get us) back ∙ there,
        named,
        found,
      )
  | inr d ↦ let none : Some p ≡ None = e ∙ ap (λ b. cond b (Some (position_from 1 us x)) None) d in cc
]

-- a name that wasn't found is none of the list's
pub found_none : (us : List Shadow) (x : OpName) → None ≡ find_position us x → names us x ≡ false
found_none us x e = elim (Members.bool_cases (names us x)) [
  | inl d ↦ let none : None ≡ Some (position_from 1 us x) = e ∙ ap (λ b. cond b (Some (position_from 1 us x)) None) d in cc
  | inr d ↦ d
]

-- under a name that wasn't found there is no operation
pub found_nothing : (us : List Shadow) (x : OpName) → None ≡ find_position us x → None ≡ find_in us x
found_nothing us x e = absent us (found_none us x e)
  where
    absent : (us : List Shadow) → names us x ≡ false → None ≡ find_in us x
    absent [] d = refl
    absent (u ∷ us) d = let (first, rest) = Members.or-false _ _ d in absent us rest ∙ sym (ap (λ b. cond b (Some u) (find_in us x)) first)

-- the second account of what cancels it
pub other_found : (us : List Shadow) (x : OpName) (p : ℕ) (d : Shadow) (r : Option Place) → Some p ≡ find_position us x →
    r ≡ receiver_of (get_or us (p - 1) d).kind → r ≡ option_and_then receiver_of (kind_in us x)
other_found us x p d r e is =
    let (t, at, named, found) = found_there us x p e in
    let (some, there) = entry_there us p t (sym at) in
    let same : get_or us (p - 1) d ≡ t = get_or_from_slice_get us (p - 1) t d there in
    is ∙ ap (λ (v : Shadow). receiver_of v.kind) same ∙ sym (ap (option_and_then receiver_of) (Lookups.kind_found us x
    ∙ ap (option_map (λ (v : Shadow). v.kind)) found))

-- a position that was found is within the list
pub other_near : (us : List Shadow) (x : OpName) (p m : ℕ) → Some p ≡ find_position us x → m ≡ length us → (1 ≤ p) × (p - 1 < m)
other_near us x p m e count =
    let (t, at, named, found) = found_there us x p e in
    let (some, there) = entry_there us p t (sym at) in
    (omega (arith, some), omega (arith, count, slice_get_within us (p - 1) t there))

-- the operation at the position of a shadow's name is the one that the shadow is compared with
pub known : (us : List Shadow) (v : Shadow) (p : ℕ) (u : Shadow) → Some p ≡ find_position us v.name → slice_get us (p - 1) ≡ Some u →
    Some (same_shadow u v) ≡ option_map (λ (w : Shadow). same_shadow w v) (find_in us v.name)
known us v p u e read =
    let (t, at, named, found) = found_there us v.name p e in
    let (some, there) = entry_there us p t (sym at) in
    ap (option_map (λ (w : Shadow). same_shadow w v)) (sym read ∙ there ∙ sym found)

-- at a position that was found there is an operation
pub nothing_missing : (us : List Shadow) (x : OpName) (p : ℕ) → Some p ≡ find_position us x → slice_get us (p - 1) ≡ None → ⊥
nothing_missing us x p e none =
    let (t, at, named, found) = found_there us x p e in
    let (some, there) = entry_there us p t (sym at) in
    let both : None ≡ Some t = sym none ∙ there in cc

-- a name that wasn't found has no second account to give back
pub other_unfound : (us : List Shadow) (x : OpName) → None ≡ find_position us x → None ≡ option_and_then receiver_of (kind_in us x)
other_unfound us x e = sym (ap (option_and_then receiver_of) (Lookups.kind_found us x
    ∙ ap (option_map (λ (v : Shadow). v.kind)) (sym (found_nothing us x e))))

-- a name of which there is no position was not found
unfound_at : (us : List Shadow) (x : OpName) → 0 ≡ position_from 1 us x → None ≡ find_position us x
unfound_at us x e = elim (Members.bool_cases (names us x)) [
  | inl d ↦ let (q, t, there, named, stood, found) = CancelFacts.found_at 1 us x d in absurd (omega (arith, e, stood))
  | inr d ↦ sym (ap (λ b. cond b (Some (position_from 1 us x)) None) d)
]

-- a name of which there is a position was found there
found_by : (us : List Shadow) (x : OpName) (p : ℕ) → p ≡ position_from 1 us x → 0 < p → Some p ≡ find_position us x
found_by us x p e some = elim (Members.bool_cases (names us x)) [
  | inl d ↦ ap Some e ∙ sym (ap (λ b. cond b (Some (position_from 1 us x)) None) d)
  | inr d ↦
      let none : find_position us x ≡ None = ap (λ b. cond b (Some (position_from 1 us x)) None) d in
      absurd (omega (arith, e, some, sym (Overdraws.position_or_none us x) ∙ ap (λ o. unwrap_or o 0) none))
]

-- what is cancelled by an operation whose target has a position
pub target_at : (us : List Shadow) (o : Option OpName) (p : ℕ) → p ≡ position_of us o → 0 < p →
    (x : OpName) × (o ≡ Some x) × (Some p ≡ find_position us x)
target_at us None p e some = absurd (omega (arith, e, some))
target_at us (Some x) p e some = (x, refl, found_by us x p e some)

-- an operation whose target has no position has none
pub no_target : (us : List Shadow) (h : Shadow) (o : Option OpName) → HasTarget us h o → 0 ≡ position_of us o → None ≡ o
no_target us h None right e = refl
no_target us h (Some x) (t, there, named, right) e =
    let (q, u, beside, same, stood, found) = CancelFacts.found_at 1 us x (ap (names us) (sym named) ∙ Members.named us t there) in
    absurd (omega (arith, e, stood))

-- the second account of an operation whose target has no position is its own receiver
pub other_alone : (us : List Shadow) (k : Kind) → 0 ≡ position_of us (target_of k) → receiver_of k ≡ other_of us k
other_alone us (Cancel x) e = other_unfound us x (unfound_at us x e)
other_alone us (Transfer to) e = refl
other_alone us Deposit e = refl
other_alone us Withdraw e = refl
other_alone us Declined e = refl
other_alone us Interest e = refl

-- the second account of an operation whose target has a position is the target's receiver
pub other_there : (us : List Shadow) (k : Kind) (p i : ℕ) (d : Shadow) (r : Option Place) → p ≡ position_of us (target_of k) → 0 < p →
    i ≡ p - 1 → r ≡ receiver_of (get_or us i d).kind → r ≡ other_of us k
other_there us k p i d r e some near is =
    let (x, cancels, found) = target_at us (target_of k) p e some in
    other_found us x p d r found (is ∙ ap (λ j. receiver_of (get_or us j d).kind) near) ∙ ap (other_by us k) (sym cancels)

-- a target's position is within the list
pub target_near : (us : List Shadow) (o : Option OpName) (p m : ℕ) → p ≡ position_of us o → 0 < p → m ≡ length us → p - 1 < m
target_near us o p m e some count = let (x, is, found) = target_at us o p e some in (other_near us x p m found count).1
