-- The money that an operation of the list moved, which is little.
use Rattle.rb_ledger.proofs.Words.{◌≡◌, ℕ, ◌+◌, ◌-◌, ◌≤◌, false, List, take, refl, ap, sym, ◌∙◌, arith, Some, None, ℤ}
use Rattle.rb_ledger.proofs.Words.{pos, neg_ℤ, ◌+ℤ◌, Option, option_map, ints, Settings, Place, Shadow, OpName, bal}
use Rattle.rb_ledger.proofs.Words.{find_in, is_cancelled, target_of, Among, is_on, Link, MOST_CENTS, at_most, IsValid}
use Rattle.rb_ledger.proofs.Words.{operation_at, change, change_by, given_back, moved_at, IsLink}
use Rattle.rb_ledger.proofs.Public.ValidClocks
use Rattle.rb_ledger.proofs.Moves
use Rattle.rb_ledger.proofs.ChainFacts
use Rattle.rb_ledger.proofs.ChainFacts.{IsLittle, cond_little, delta_little, zero_little}
use Rattle.rb_shadow.proofs.Public.Lookups
use Rattle.rb_ledger.proofs.FoundNames.{among, entry_there}
use Rattle.rb_ledger.proofs.LinkReads.{linked_there, on_whole}

moved_entry : (s : Settings) (us : List Shadow) (a : Place) (p : ℕ) (u : Shadow) (z : ℤ) → IsValid s us → Some u ≡ operation_at us p →
    z ≡ change (take (p - 1) us) u a → Some z ≡ moved_at s us a p
moved_entry s us a p u z valid e is =
    let (some, there) = entry_there us p u e in
    let here : p - 1 + 1 ≡ p = omega arith in
    ap Some (is ∙ less _ _ _ (Moves.moved_on s us a (p - 1) u valid there)
    ∙ ap (λ n. bal s (take n us) a +ℤ neg_ℤ (bal s (take (p - 1) us) a)) here)
    ∙ ap (option_map (λ (u : Shadow). bal s (take p us) a +ℤ neg_ℤ (bal s (take (p - 1) us) a))) e
  where
    less : (x y z : ℤ) → x ≡ y +ℤ z → z ≡ x +ℤ neg_ℤ y
    less x y z e = omega (arith, ints)

-- an operation moved nothing on an account that it isn't on
pub moved_other : (s : Settings) (us : List Shadow) (a : Place) (p : ℕ) (u : Shadow) → IsValid s us → Some u ≡ operation_at us p →
    false ≡ is_on us u a → Some (pos 0) ≡ moved_at s us a p
moved_other s us a p u valid e apart =
    let (some, there) = entry_there us p u e in
    moved_entry s us a p u (pos 0) valid e (ChainFacts.moved_elsewhere s us a (p - 1) u valid there (on_whole s us a (p - 1) u valid there
    ∙ sym apart))

given_little : (o : Option Shadow) (a : Place) (m : ℕ) → ((t : Shadow) → o ≡ Some t → t.amount ≤ m) → IsLittle m (given_back o a)
given_little None a m h = zero_little m
given_little (Some t) a m h = let (least, most) = delta_little t a m (h t refl) in
    (omega (arith, ints, least, most), omega (arith, ints, least, most))

-- what one more operation changes is little if all amounts are small
change_little : (us : List Shadow) (h : Shadow) (a : Place) (m : ℕ) → h.amount ≤ m → ((t : Shadow) → Among t us → t.amount ≤ m) →
    IsLittle m (change us h a)
change_little us h a m own each = at (target_of h.kind)
  where
    at : (o : Option OpName) → IsLittle m (change_by us h o a)
    at None = delta_little h a m own
    at (Some x) = cond_little (is_cancelled us x) (pos 0) _ m (zero_little m)
        (given_little (find_in us x) a m (λ t e. each t (Lookups.found us x t e).0))

-- what was moved on an account, by its link
pub moved_own : (s : Settings) (us : List Shadow) (a : Place) (p : ℕ) (u : Shadow) (l : Link) (before : ℕ) → IsValid s us →
    Some u ≡ operation_at us p → IsLink s (take (p - 1) us) (take p us) a l
    → pos before ≡ bal s (take l.earlier us) a → (z : ℤ) → pos l.balance ≡ pos before +ℤ z → Some z ≡ moved_at s us a p
moved_own s us a p u l before valid e link was z is =
    let (some, there) = entry_there us p u e in
    moved_entry s us a p u z valid e (ChainFacts.moved_linked s us a (p - 1) u l before z valid there (linked_there s us a p l some link)
    was is)

-- what was moved is at most the most cents, either way
pub moved_little : (s : Settings) (us : List Shadow) (a : Place) (p : ℕ) (u : Shadow) (l : Link) (before : ℕ) → IsValid s us →
    Some u ≡ operation_at us p → IsLink s (take (p - 1) us) (take p us) a l
    → pos before ≡ bal s (take l.earlier us) a → (l.balance ≤ before + MOST_CENTS) × (before ≤ l.balance + MOST_CENTS)
moved_little s us a p u l before valid e link was =
    let (some, there) = entry_there us p u e in
    let is : pos l.balance +ℤ neg_ℤ (pos before) ≡ change (take (p - 1) us) u a =
    ChainFacts.moved_linked s us a (p - 1) u l before (pos l.balance +ℤ neg_ℤ (pos before)) valid there (linked_there s us a p l some link)
    was (omega (arith, ints)) in
    let (front, target) = Moves.target_there s us (p - 1) u valid there in
    let (least, most) = change_little (take (p - 1) us) u a MOST_CENTS (small s us u valid (among us (p - 1) u there))
    (λ t h. small s (take (p - 1) us) t front h) in
    (omega (arith, ints, is, least, most), omega (arith, ints, is, least, most))
  where
    small : (s : Settings) (vs : List Shadow) (v : Shadow) → IsValid s vs → Among v vs → v.amount ≤ MOST_CENTS
    small s vs v valid h = at_most MOST_CENTS v.amount (ValidClocks.member_sound s vs v valid h).amount
