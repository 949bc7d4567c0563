-- A balance depends on the operations, and not on their order.
use Rattle.std.proofs.Common.{◌≡◌, ◌+◌, Bool, true, false, cond, not, ◌&&◌, ◌||◌, List, [], ◌∷◌, ◌++◌, refl, ap, sym, ◌∙◌, arith, ◌⊎◌, inl}
use Rattle.std.proofs.Common.{inr, subst}
use Rattle.std.specs.Prelude.{ℤ, pos, ◌+ℤ◌, ◌≤ℤ◌, is_some}
use Rattle.std.proofs.lemmas.Int.{ints}
use Rattle.std.proofs.lemmas.List.Sums.{sum_by-cons}
use Rattle.rb_money.specs.Settings.{Settings, start_of}
use Rattle.rb_money.specs.declared.place.Place.{Place}
use Rattle.rb_shadow.specs.declared.shadow.Shadow.{Shadow}
use Rattle.rb_shadow.specs.declared.op_name.OpName.{OpName}
use Rattle.rb_shadow.specs.Operations.{Among, same_name, names, IsUnique, IsWithin, AreSame, total, delta, bal, is_cancelled, cancels}
use Rattle.rb_shadow.specs.Operations.{cancel_count, Agree, IsLawful, target_of}
use Rattle.rb_shadow.specs.Laws.{IsPart}
use Rattle.rb_shadow.proofs.Public.Members
use Rattle.rb_shadow.proofs.Public.Totals

-- neither a cancellation nor cancelled
abbrev pub is_kept : List Shadow → Shadow → Bool
is_kept us u = not (is_some (target_of u.kind)) && not (is_cancelled us u.name)

-- what an operation of the list adds to the balance
abbrev pub worth : List Shadow → Place → Shadow → ℤ
worth us a u = cond (is_kept us u) (delta u a) (pos 0)

-- a balance is the start and what each operation adds to it
pub bal-worth : (s : Settings) (us : List Shadow) (a : Place) → bal s us a ≡ pos (start_of s a) +ℤ total (worth us a) us
unfolding bal
bal-worth s us a = ap (λ z. pos (start_of s a) +ℤ z) (Totals.total-filter (is_kept us) (λ u. delta u a) us)

-- what is a part of a list without u is a part of the list without u
part_without : (us front back : List Shadow) (u : Shadow) → names us u.name ≡ false → IsPart us (front ++ u ∷ back) →
    IsPart us (front ++ back)
part_without us front back u absent part w h = at (Members.Among-cases front (u ∷ back) w (part w h))
  where
    at : Among w front ⊎ Among w (u ∷ back) → Among w (front ++ back)
    at (inl k) = Members.Among-left front back w k
    at (inr (inl e)) = absurd (Members.true≢false (sym (Members.named us w h) ∙ ap (λ (v : Shadow). names us v.name) e ∙ absent))
    at (inr (inr k)) = Members.Among-right front back w k

unnamed_without : (us front back : List Shadow) (u v : Shadow) → names (front ++ back) u.name ≡ false → Among v (front ++ back) →
    names us v.name ≡ false → names (u ∷ us) v.name ≡ false
unnamed_without us front back u v absent h k = at (Members.bool_cases (same_name u.name v.name))
  where
    at : (same_name u.name v.name ≡ true) ⊎ (same_name u.name v.name ≡ false) → names (u ∷ us) v.name ≡ false
    at (inl e) = absurd (Members.true≢false (sym (Members.named (front ++ back) v h)
        ∙ ap (names (front ++ back)) (sym (Members.same_name-true u.name v.name e)) ∙ absent))
    at (inr e) = Members.false-or _ _ e k

-- a sum over part of a list is at most that over the list, if what is left out adds nothing negative
pub total-part : (f : Shadow → ℤ) (us vs : List Shadow) → IsUnique us → IsUnique vs → IsPart us vs →
    ((v : Shadow) → Among v vs → names us v.name ≡ false → pos 0 ≤ℤ f v) → total f us ≤ℤ total f vs
total-part f [] vs uu uv part rest = omega (arith, ints, Totals.total-le (λ _. pos 0) f vs (λ v h. rest v h refl), Totals.total-none vs)
total-part f (u ∷ us) vs uu uv part rest = at (Members.split_at vs u (part u (inl refl))) (λ ws p q r. total-part f us ws uu.1 p q r)
  where
    at : (front : List Shadow) × (back : List Shadow) × (vs ≡ front ++ u ∷ back)
        → ((ws : List Shadow) → IsUnique ws → IsPart us ws → ((v : Shadow) → Among v ws → names us v.name ≡ false → pos 0 ≤ℤ f v) →
        total f us ≤ℤ total f ws)
        → total f (u ∷ us) ≤ℤ total f vs
    at (front, back, e) shorter =
        let apart : IsUnique (front ++ back) × (names (front ++ back) u.name ≡ false) =
        Members.IsUnique-middle front back u (subst IsUnique e uv) in
        let inside : IsPart us (front ++ back) = part_without us front back u uu.0 (λ w h. subst (Among w) e (part w (inr h))) in
        let others : total f us ≤ℤ total f (front ++ back) =
        shorter (front ++ back) apart.0 inside (λ v h k. rest v (subst (Among v) (sym e) (Members.Among-middle front back u v h))
        (unnamed_without us front back u v apart.1 h k)) in
        omega (arith, ints, others, Totals.total-middle f front back u, ap (total f) e)

-- ---- cancellations

-- what is cancelled has a cancellation in the list
pub cancelled_by : (us : List Shadow) (x : OpName) → is_cancelled us x ≡ true → (c : Shadow) × Among c us × (cancels c.kind x ≡ true)
cancelled_by [] x h = cc
cancelled_by (u ∷ us) x h = at (Members.or-true (cancels u.kind x) (is_cancelled us x) h) (cancelled_by us x)
  where
    at : (cancels u.kind x ≡ true) ⊎ (is_cancelled us x ≡ true) → (is_cancelled us x ≡ true →
        (c : Shadow) × Among c us × (cancels c.kind x ≡ true)) → (c : Shadow) × Among c (u ∷ us) × (cancels c.kind x ≡ true)
    at (inl e) k = (u, inl refl, e)
    at (inr e) k = ((k e).0, inr (k e).1, (k e).2)

-- what a cancellation of the list is of is cancelled
pub cancelled : (us : List Shadow) (c : Shadow) (x : OpName) → Among c us → cancels c.kind x ≡ true → is_cancelled us x ≡ true
cancelled [] c x h e = elim h [ ]
cancelled (u ∷ us) c x (inl h) e = ap (λ (w : Shadow). cancels w.kind x || is_cancelled us x) (sym h) ∙ ap (λ b. b || is_cancelled us x) e
cancelled (u ∷ us) c x (inr h) e = Members.or-right (cancels u.kind x) (is_cancelled us x) (cancelled us c x h e)

-- what is cancelled in a part is cancelled in all
pub cancelled-part : (us vs : List Shadow) (x : OpName) → IsPart us vs → is_cancelled us x ≡ true → is_cancelled vs x ≡ true
cancelled-part us vs x part h = let by : (c : Shadow) × Among c us × (cancels c.kind x ≡ true) = cancelled_by us x h in
    cancelled vs by.0 x (part by.0 by.1) by.2

-- the same is cancelled in lists of the same operations
pub cancelled-same : (us vs : List Shadow) (x : OpName) → IsPart us vs → IsPart vs us → is_cancelled us x ≡ is_cancelled vs x
cancelled-same us vs x there back = Members.both-same _ _ (cancelled-part us vs x there) (cancelled-part vs us x back)

-- ---- the same operations in another order

-- a sum does not depend on the order
pub total-reordered : (f : Shadow → ℤ) (us vs : List Shadow) → IsUnique us → IsUnique vs → IsPart us vs → IsPart vs us →
    total f us ≡ total f vs
total-reordered f us vs uu uv there back =
    let low : total f us ≤ℤ total f vs = total-part f us vs uu uv there
    (λ v h k. absurd (Members.true≢false (sym (Members.named us v (back v h)) ∙ k))) in
    let high : total f vs ≤ℤ total f us = total-part f vs us uv uu back
    (λ v h k. absurd (Members.true≢false (sym (Members.named vs v (there v h)) ∙ k))) in
    omega (arith, ints, low, high)

-- an operation adds the same if it is cancelled the same
pub worth-same : (us vs : List Shadow) (a : Place) (u : Shadow) → is_cancelled us u.name ≡ is_cancelled vs u.name →
    worth us a u ≡ worth vs a u
worth-same us vs a u e = ap (λ b. cond (not (is_some (target_of u.kind)) && not b) (delta u a) (pos 0)) e

-- a balance is the same in any order
pub bal-reordered : (s : Settings) (us vs : List Shadow) (a : Place) → IsUnique us → IsUnique vs → IsPart us vs → IsPart vs us →
    bal s us a ≡ bal s vs a
bal-reordered s us vs a uu uv there back =
    bal-worth s us a
    ∙ ap (λ z. pos (start_of s a) +ℤ z) (total-reordered (worth us a) us vs uu uv there back
    ∙ Totals.total-same (worth us a) (worth vs a) vs (λ u h. worth-same us vs a u (cancelled-same us vs u.name there back)))
    ∙ sym (bal-worth s vs a)

-- the number of cancellations as a sum
pub cancel_count-total : (us : List Shadow) (x : OpName) → pos (cancel_count us x) ≡ total (λ u. cond (cancels u.kind x) (pos 1) (pos 0)) us
cancel_count-total [] x = refl
cancel_count-total (u ∷ us) x = ap pos (sum_by-cons (λ u. cond (cancels u.kind x) 1 0) u us)
    ∙ at (cancels u.kind x) (cancel_count-total us x)
  where
    at : (b : Bool) → pos (cancel_count us x) ≡ total (λ u. cond (cancels u.kind x) (pos 1) (pos 0)) us →
        pos (cond b 1 0 + cancel_count us x) ≡ cond b (pos 1) (pos 0) +ℤ total (λ u. cond (cancels u.kind x) (pos 1) (pos 0)) us
    at true e = omega (arith, ints, e)
    at false e = omega (arith, ints, e)

-- it does not depend on the order
pub cancel_count-reordered : (us vs : List Shadow) (x : OpName) → IsUnique us → IsUnique vs → IsPart us vs → IsPart vs us →
    cancel_count us x ≡ cancel_count vs x
cancel_count-reordered us vs x uu uv there back =
    omega (
      arith,
      ints,
      cancel_count-total us x,
      cancel_count-total vs x,
      total-reordered (λ u. cond (cancels u.kind x) (pos 1) (pos 0)) us vs uu uv there back,
    )

-- a part's names are among those of all
pub names-part : (us vs : List Shadow) → IsPart us vs → IsWithin (names us) (names vs)
names-part us vs part x h = let by : (u : Shadow) × Among u us × (u.name ≡ x) = Members.find_named us x h in
    ap (names vs) (sym by.2) ∙ Members.named vs by.0 (part by.0 by.1)

-- the same operations in another order agree
pub reordered : (s : Settings) (us vs : List Shadow) → IsUnique us → IsUnique vs → IsPart us vs → IsPart vs us → Agree s us vs
reordered s us vs uu uv there back = record {
  balances = λ a. bal-reordered s us vs a uu uv there back;
  cancels = λ x. cancel_count-reordered us vs x uu uv there back;
  names = λ x. Members.both-same _ _ (names-part us vs there x) (names-part vs us back x);
}

-- of operations with unique names, what is named is there
pub part_by_names : (all us vs : List Shadow) → IsUnique all → IsPart us all → IsPart vs all → IsWithin (names us) (names vs) → IsPart us vs
part_by_names all us vs unique iu iv within u h =
    let by : (v : Shadow) × Among v vs × (v.name ≡ u.name) = Members.find_named vs u.name (within u.name (Members.named us u h)) in
    subst (λ w. Among w vs) (Members.same_named all by.0 u unique (iv by.0 by.1) (iu u h) by.2) by.1

-- sites that applied the same operations of one order agree
pub agreement : (s : Settings) (all us vs : List Shadow) → IsLawful all → IsPart us all → IsPart vs all → IsUnique us → IsUnique vs →
    AreSame (names us) (names vs) → Agree s us vs
agreement s all us vs lawful iu iv uu uv same =
    reordered s us vs uu uv
    (part_by_names all us vs lawful.unique iu iv (λ x h. sym (same x) ∙ h))
    (part_by_names all vs us lawful.unique iv iu (λ x h. same x ∙ h))
