-- The next bank starts with the balances.
use Rattle.rb_runs.proofs.Words.{◌≡◌, ◌≤◌, ℕ, zero, suc, ◌+◌, false, cond, List, ◌++◌, length, Option, Some, None, refl, sym}
use Rattle.rb_runs.proofs.Words.{ap, ◌∙◌, arith, map, ℤ, pos, negsuc, ◌+ℤ◌, ◌≤ℤ◌, ◌==◌, nat_le, replicate, slice_index, sum}
use Rattle.rb_runs.proofs.Words.{range_with_len, nat_tests, ints, get_or_past, sum_by-cons, cents, IsConfigured, Settings, start_of, Place}
use Rattle.rb_runs.proofs.Words.{Shadow, Agree, arrived, delta, kept, moved, receiver_of, total, is_misdirected, IsValid, covers}
use Rattle.rb_runs.proofs.Words.{member_sound, get_front, balances_of, NextBank, next_settings}
use Rattle.rb_runs.proofs.Words.{next_with, CarriedForward, IsCarriedForward, sum_of_accounts}
use Rattle.std.proofs.lemmas.Bool.{cond_both}
use Rattle.rb_shadow.specs.Operations.{bal}
use Rattle.rb_shadow.proofs.Public.Balances.{bal-worth, is_kept, worth}
use Rattle.rb_shadow.proofs.Public.SoundFacts.{SoundFacts}
use Rattle.rb_runs.proofs.AtRest.{AllLaws, sites_agree}
use Rattle.rb_runs.proofs.OpenLists.{map_same, valid_list}
use Rattle.rb_shadow.proofs.Public.Members
use Rattle.rb_shadow.proofs.Public.Totals

-- ---- what is beyond the accounts

-- a place beyond the accounts is that of none
elsewhere : (n a b : ℕ) → nat_le n b ≡ false → n ≤ a → (b == a) ≡ false
elsewhere n a b h k = grind (arith, nat_tests)

nothing_arrives : (n : ℕ) (own a : Place) (o : Option Place) (amount : ℕ) → is_misdirected n own o ≡ false → n ≤ a.0 →
    arrived o amount a ≡ pos 0
nothing_arrives n own a None amount h k = refl
nothing_arrives n own a (Some to) amount h k =
    ap (λ b. cond b (pos amount) (pos 0)) (elsewhere n a.0 to.0 (Members.or-false _ _ h).0 k)

-- a sound operation moves nothing there
moves_nothing : (s : Settings) (u : Shadow) (a : Place) → SoundFacts s u → length s.starts ≤ a.0 → delta u a ≡ pos 0
moves_nothing s u a f h =
    ap (λ b. cond b (moved u.kind u.amount) (arrived (receiver_of u.kind) u.amount a))
    (elsewhere (length s.starts) a.0 u.account.0 f.account h)
    ∙ nothing_arrives (length s.starts) u.account a (receiver_of u.kind) u.amount f.receiver h

-- so nothing is there
nothing_beyond : (s : Settings) (us : List Shadow) (a : Place) → IsValid s us → length s.starts ≤ a.0 → bal s us a ≡ pos 0
nothing_beyond s us a valid h =
    bal-worth s us a
    ∙ ap (λ n. pos n +ℤ total (worth us a) us) (get_or_past s.starts a.0 0 h)
    ∙ ap (λ z. pos 0 +ℤ z) (Totals.total-same (worth us a) (λ _. pos 0) us
    (λ u k. cond_both (is_kept us u) (delta u a) (pos 0) (λ z. z ≡ pos 0)
    (λ _. moves_nothing s u a (member_sound s us u valid k) h) (λ _. refl)) ∙ Totals.total-none us)

-- ---- starts

-- a number that isn't negative is that of its cents
exact : (z : ℤ) → pos 0 ≤ℤ z → pos (cents z) ≡ z
exact (pos n) h = refl
exact (negsuc n) h = absurd (let no : ⊥ = omega (arith, ints) in no)

zeros : (m i : ℕ) → slice_index (replicate m 0) i ≡ 0
zeros zero i = refl
zeros (suc m) zero = refl
zeros (suc m) (suc i) = zeros m i

-- what is at a place of the numbers of some places, with zeros after them
there : (f : ℕ → ℕ) (a n m i : ℕ) → ((k : ℕ) → n ≤ k → f (a + k) ≡ 0) →
    slice_index (map f (range_with_len a n) ++ replicate m 0) i ≡ f (a + i)
there f a zero m i h = zeros m i ∙ sym (h i (omega arith))
there f a (suc n) m zero h = ap f (let q : a ≡ a + 0 = omega arith in q)
there f a (suc n) m (suc i) h =
    there f (a + 1) n m i (λ k l. ap f (let q : (a + 1) + k ≡ a + suc k = omega arith in q) ∙ h (suc k) (omega arith))
    ∙ ap f (let q : (a + 1) + i ≡ a + suc i = omega arith in q)

-- each account starts with its balance
pub starts_with : (s : Settings) (us : List Shadow) (ask : NextBank) (a : Place) → IsValid s us →
    pos (start_of (next_settings s us ask) a) ≡ bal s us a
starts_with s us ask a valid =
    ap pos (there (λ i. cents (bal s us (record { 0 = i }))) 0 (length s.starts) (length ask.added) a.0
    (λ k h. ap cents (nothing_beyond s us (record { 0 = 0 + k }) valid (let q : length s.starts ≤ 0 + k = omega arith in q))))
    ∙ exact (bal s us (record { 0 = 0 + a.0 })) (covers s us (record { 0 = 0 + a.0 }) valid)
    ∙ ap (λ i. bal s us (record { 0 = i })) (let q : 0 + a.0 ≡ a.0 = omega arith in q)

-- a balance is the start and the deltas of what is kept
pub balance_is : (s : Settings) (us : List Shadow) (a : Place) → bal s us a ≡ pos (start_of s a) +ℤ total (λ u. delta u a) (kept us)
unfolding bal
balance_is s us a = refl

-- ---- the sum

no_more : (m : ℕ) → sum (replicate m 0) ≡ 0
no_more zero = refl
no_more (suc m) = no_more m

summed : (f : Place → ℤ) (a n m : ℕ) → ((p : Place) → pos 0 ≤ℤ f p) →
    pos (sum (map (λ i. cents (f (record { 0 = i }))) (range_with_len a n) ++ replicate m 0)) ≡ sum_of_accounts f a n
summed f a zero m h = ap pos (no_more m)
summed f a (suc n) m h =
    let first : ℕ = cents (f (record { 0 = a })) in
    let later : List ℕ = map (λ i. cents (f (record { 0 = i }))) (range_with_len (a + 1) n) ++ replicate m 0 in
    ap pos (sum_by-cons (λ (x : ℕ). x) first later)
    ∙ ap (λ z. z +ℤ pos (sum later)) (exact (f (record { 0 = a })) (h (record { 0 = a })))
    ∙ ap (λ z. f (record { 0 = a }) +ℤ z) (summed f (a + 1) n m h)

-- ---- all of it

-- if a list is valid, the next bank goes on with its balances
pub carried : (s : Settings) (us : List Shadow) (ask : NextBank) → IsConfigured s → IsValid s us →
    IsCarriedForward s us (next_settings s us ask)
carried s us ask c valid = record {
  names = λ i name at. get_front s.names ask.added i name at;
  balances = λ a. starts_with s us ask a valid;
  starts = λ a. starts_with s us ask a valid ∙ balance_is s us a;
  added = λ a h. zero_is (start_of (next_settings s us ask) a) (starts_with s us ask a valid
      ∙ nothing_beyond s us a valid (let same : length s.starts ≡ length s.names = c.starts_of_all in omega arith));
  sum = summed (bal s us) 0 (length s.starts) (length ask.added) (λ p. covers s us p valid)
      ∙ ap (sum_of_accounts (bal s us) 0) c.starts_of_all;
}
  where
    zero_is : (n : ℕ) → pos n ≡ pos 0 → n ≡ 0
    zero_is n e = cc

-- lists that agree have the same balances
pub same_balances : (s : Settings) (us vs : List Shadow) → Agree s us vs → balances_of s us ≡ balances_of s vs
same_balances s us vs agree =
    map_same (λ i. cents (bal s us (record { 0 = i }))) (λ i. cents (bal s vs (record { 0 = i }))) (range_with_len 0 (length s.starts))
    (λ k. ap cents (agree.balances (record { 0 = k })))

-- if the books may be closed, the balances are carried forward
pub all_carried : AllLaws → CarriedForward
all_carried laws x ask c one closed = record {
  carried = λ i us at. carried x.settings us ask c (valid_list laws x.settings x.histories c one i us at);
  one = λ i j us vs at there. ap (λ bs. next_with x.settings bs ask) (same_balances x.settings us vs
      (sites_agree laws x.settings x.histories c one closed i j us vs at there));
}
