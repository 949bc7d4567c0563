-- Reads of the numbers of cancellations.
use Rattle.rb_ledger.proofs.Words.{◌≡◌, ℕ, zero, suc, ◌-◌, ◌≤◌, true, false, cond, List, [], ◌∷◌, ◌++◌, length, get_or}
use Rattle.rb_ledger.proofs.Words.{map, refl, ap, sym, ◌∙◌, arith, ◌⊎◌, inl, inr, Some, None, slice_get, Option}
use Rattle.rb_ledger.proofs.Words.{option_map, option_and_then, length-map, slice_get-map, slice_get_past, Settings}
use Rattle.rb_ledger.proofs.Words.{Shadow, OpName, is_cancelled, cancel_count, cancels, target_of, Cancels, Index}
use Rattle.rb_ledger.proofs.Words.{count_by-le-length, MOST_OPERATIONS, IsValid, position_of, operation_at}
use Rattle.rb_ledger.proofs.Words.{first_cancel_in, first_cancel_from, IsIndex, all_cancels, cancels_of, no_cancels}
use Rattle.rb_shadow.proofs.Public.Members
use Rattle.rb_money.proofs.Public.Tests
use Rattle.rb_ledger.proofs.Public.Legal
use Rattle.rb_ledger.proofs.Lengths
use Rattle.rb_ledger.proofs.CancelFacts

-- there is one number of cancellations for each operation
pub all_counts : (us : List Shadow) (cs : List Cancels) → cs ≡ all_cancels us → length cs ≡ length us
all_counts us cs e = ap length e ∙ length-map us (λ (u : Shadow). cancels_of us u.name)

-- no operation has many cancellations
pub counts_few : (s : Settings) (us : List Shadow) (x : Index) (i : ℕ) → IsIndex s us x →
    (get_or x.cancels.items i no_cancels).count ≤ MOST_OPERATIONS
counts_few s us x i index = omega (
  arith,
  ap (λ xs. (get_or xs i no_cancels).count) index.cancels,
  low us i (λ y. count_by-le-length (λ (u : Shadow). cancels u.kind y) us),
  Lengths.clocked_length s us x.clock index.clocked,
)
  where
    low : (vs : List Shadow) (i : ℕ) → ((y : OpName) → cancel_count us y ≤ length us) →
        (get_or (map (λ (u : Shadow). cancels_of us u.name) vs) i no_cancels).count ≤ length us
    low [] i h = omega arith
    low (v ∷ vs) zero h = h v.name
    low (v ∷ vs) (suc i) h = low vs i h

cancels_at : (us : List Shadow) (cs : List Cancels) (p i : ℕ) (c : Cancels) → cs ≡ all_cancels us → 1 ≤ p → p - 1 ≡ i →
    slice_get cs i ≡ Some c → (u : Shadow) × (operation_at us p ≡ Some u) × (c ≡ cancels_of us u.name)
cancels_at us cs p i c are some is read = at (slice_get us i) refl
  where
    mapped : option_map (λ (u : Shadow). cancels_of us u.name) (slice_get us i) ≡ Some c
    mapped = sym (slice_get-map (λ (u : Shadow). cancels_of us u.name) us i) ∙ ap (λ xs. slice_get xs i) (sym are) ∙ read

    at : (o : Option Shadow) → slice_get us i ≡ o → (u : Shadow) × (operation_at us p ≡ Some u) × (c ≡ cancels_of us u.name)
    at None e = let none : option_map (λ (u : Shadow). cancels_of us u.name) None ≡ Some c =
        ap (option_map (λ (u : Shadow). cancels_of us u.name)) (sym e) ∙ mapped in cc
    at (Some u) e = (
      u,
      ap (λ b. cond b None (slice_get us (p - 1))) (Tests.positive p some) ∙ ap (slice_get us) is ∙ e,
      (let one : option_map (λ (u : Shadow). cancels_of us u.name) (Some u)
          ≡ Some c = ap (option_map (λ (u : Shadow). cancels_of us u.name)) (sym e) ∙ mapped in let back : cancels_of us u.name ≡ c = cc in
          sym back),
    )

-- an operation that isn't cancelled has no first cancellation
pub first_absent : (us : List Shadow) (cs : List Cancels) (p i : ℕ) (c : Cancels) → cs ≡ all_cancels us → 1 ≤ p → p - 1 ≡ i →
    slice_get cs i ≡ Some c → c.count ≡ 0 → None ≡ option_and_then (λ u. first_cancel_in us u.name) (operation_at us p)
first_absent us cs p i c are some is read none =
    let (u, there, same) = cancels_at us cs p i c are some is read in
    sym (ap (option_and_then (λ (u : Shadow). first_cancel_in us u.name)) there
    ∙ ap (λ b. cond b (Some (first_cancel_from 1 us u.name)) None)
    (free u.name (Members.bool_cases (is_cancelled us u.name)) (ap (λ (c : Cancels). c.count) (sym same) ∙ none)))
  where
    free : (x : OpName) → (is_cancelled us x ≡ true) ⊎ (is_cancelled us x ≡ false) → cancel_count us x ≡ 0 → is_cancelled us x ≡ false
    free x (inl e) h = absurd (omega (arith, h, CancelFacts.counted_some us x e))
    free x (inr e) h = e

-- a cancelled operation's first cancellation is where its numbers say
pub first_present : (us : List Shadow) (cs : List Cancels) (p i : ℕ) (c : Cancels) → cs ≡ all_cancels us → 1 ≤ p → p - 1 ≡ i →
    slice_get cs i ≡ Some c → (c.count ≡ 0 → ⊥) → Some c.first ≡ option_and_then (λ u. first_cancel_in us u.name) (operation_at us p)
first_present us cs p i c are some is read counted =
    let (u, there, same) = cancels_at us cs p i c are some is read in
    ap (λ (c : Cancels). Some c.first) same
    ∙ sym (ap (option_and_then (λ (u : Shadow). first_cancel_in us u.name)) there
    ∙ ap (λ b. cond b (Some (first_cancel_from 1 us u.name)) None)
    (cancelled u.name (Members.bool_cases (is_cancelled us u.name)) (λ e. counted (ap (λ (c : Cancels). c.count) same ∙ e))))
  where
    cancelled : (x : OpName) → (is_cancelled us x ≡ true) ⊎ (is_cancelled us x ≡ false) → (cancel_count us x ≡ 0 → ⊥) →
        is_cancelled us x ≡ true
    cancelled x (inl e) h = e
    cancelled x (inr e) h = absurd (h (CancelFacts.counted_none us x e))

-- the position of an operation's target is within the numbers of cancellations
pub target_near : (s : Settings) (us : List Shadow) (x : Index) (h : Shadow) (n : ℕ) → IsIndex s us x → IsValid s (us ++ h ∷ []) →
    n ≡ position_of us (target_of h.kind) → n ≤ length x.cancels.items
target_near s us x h n index longer is = omega (
  arith,
  is,
  CancelFacts.target_within us h (Legal.IsValid-last s us h longer).target,
  all_counts us x.cancels.items index.cancels,
)

-- how often the operation at a position is cancelled
pub count_there : (us : List Shadow) (cs : List Cancels) (p i : ℕ) (c : Cancels) → cs ≡ all_cancels us → 1 ≤ p → p - 1 ≡ i →
    slice_get cs i ≡ Some c → Some c.count ≡ option_map (λ u. cancel_count us u.name) (operation_at us p)
count_there us cs p i c are some is read =
    let (u, there, same) = cancels_at us cs p i c are some is read in
    ap (λ (c : Cancels). Some c.count) same ∙ sym (ap (option_map (λ (u : Shadow). cancel_count us u.name)) there)

-- there is no operation where no number is kept
pub nothing_there : (us : List Shadow) (cs : List Cancels) (p i : ℕ) → cs ≡ all_cancels us → 1 ≤ p → p - 1 ≡ i →
    length cs ≤ i → operation_at us p ≡ None
nothing_there us cs p i are some is past = ap (λ b. cond b None (slice_get us (p - 1))) (Tests.positive p some)
    ∙ slice_get_past us (p - 1) (omega (arith, is, past, all_counts us cs are))
