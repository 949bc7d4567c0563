-- No balance is negative in a closed part of a lawful set whose red operations were covered where they were made.
use Rattle.std.proofs.Common.{◌≡◌, ◌≢◌, ℕ, Bool, true, false, cond, not, ◌&&◌, ◌||◌, List, [], ◌∷◌, ◌++◌, refl, ap, sym, ◌∙◌, arith, ◌⊎◌}
use Rattle.std.proofs.Common.{inl, inr, subst}
use Rattle.std.specs.Prelude.{ℤ, pos, ◌≤ℤ◌, ◌==◌, Option, Some, None, is_some}
use Rattle.std.proofs.lemmas.Int.{ints}
use Rattle.rb_money.specs.Settings.{Settings, start_of}
use Rattle.rb_money.specs.declared.place.Place.{Place}
use Rattle.rb_shadow.specs.declared.shadow.Shadow.{Shadow}
use Rattle.rb_shadow.specs.declared.op_name.OpName.{OpName}
use Rattle.rb_shadow.specs.declared.kind.Kind.{Kind}
use Rattle.rb_shadow.specs.declared.kind.Kind.TheVariants.{Deposit, Withdraw, Interest, Transfer}
use Rattle.rb_shadow.specs.Operations.{Among, same_name, names, past, Precedes, IsUnique, IsWithin, AreSame, delta, moved, arrived}
use Rattle.rb_shadow.specs.Operations.{receiver_of, bal, is_cancelled, cancels, is_red, target_of}
use Rattle.rb_shadow.specs.Laws.{IsClosed, IsFunded, IsPart}
use Rattle.rb_shadow.proofs.Public.Members
use Rattle.rb_shadow.proofs.Public.Totals
use Rattle.rb_shadow.proofs.Public.Balances

-- it may take from an account
abbrev pub takes : Kind → Bool
takes Withdraw = true
takes (Transfer to) = true
takes _ = false

-- it may add to an account
abbrev pub adds : Kind → Bool
adds Deposit = true
adds Interest = true
adds (Transfer to) = true
adds _ = false

arrived-low : (to : Option Place) (n : ℕ) (a : Place) → pos 0 ≤ℤ arrived to n a
arrived-low None n a = omega (arith, ints)
arrived-low (Some to) n a = at (to.0 == a.0)
  where
    at : (b : Bool) → pos 0 ≤ℤ cond b (pos n) (pos 0)
    at true = omega (arith, ints)
    at false = omega (arith, ints)

-- only what takes lowers a balance
delta-none_taken : (u : Shadow) (a : Place) → takes u.kind ≡ false → pos 0 ≤ℤ delta u a
delta-none_taken u a e = at (u.account.0 == a.0) u.kind e
  where
    at : (b : Bool) (k : Kind) → takes k ≡ false → pos 0 ≤ℤ cond b (moved k u.amount) (arrived (receiver_of k) u.amount a)
    at false k e = arrived-low (receiver_of k) u.amount a
    at true Withdraw e = absurd (Members.true≢false e)
    at true (Transfer to) e = absurd (Members.true≢false e)
    at true _ e = omega (arith, ints)

worth-none_taken : (us : List Shadow) (a : Place) (u : Shadow) → takes u.kind ≡ false → pos 0 ≤ℤ Balances.worth us a u
worth-none_taken us a u e = at (Balances.is_kept us u) (delta-none_taken u a e)
  where
    at : (b : Bool) → pos 0 ≤ℤ delta u a → pos 0 ≤ℤ cond b (delta u a) (pos 0)
    at true h = h
    at false h = omega (arith, ints)

-- what takes counts less where more is cancelled; what adds counts the same where the same is cancelled
takes_more : (p b c : Bool) (z : ℤ) → z ≤ℤ pos 0 → (b ≡ true → c ≡ true) → cond (p && not b) z (pos 0) ≤ℤ cond (p && not c) z (pos 0)
takes_more false b c z h k = omega (arith, ints)
takes_more true true true z h k = omega (arith, ints)
takes_more true true false z h k = absurd (Members.true≢false (sym (k refl)))
takes_more true false true z h k = h
takes_more true false false z h k = omega (arith, ints)

adds_same : (p b c : Bool) (z : ℤ) → b ≡ c → cond (p && not b) z (pos 0) ≤ℤ cond (p && not c) z (pos 0)
adds_same p b c z e = let same : cond (p && not b) z (pos 0) ≡ cond (p && not c) z (pos 0) = ap (λ b. cond (p && not b) z (pos 0)) e in
    omega (arith, ints, same)

nothing_added : (k : Kind) (n : ℕ) (a : Place) (d : Bool) → adds k ≡ false → cond d (moved k n) (arrived (receiver_of k) n a) ≤ℤ pos 0
nothing_added Deposit n a d e = absurd (Members.true≢false e)
nothing_added Interest n a d e = absurd (Members.true≢false e)
nothing_added (Transfer to) n a d e = absurd (Members.true≢false e)
nothing_added _ n a true e = omega (arith, ints)
nothing_added _ n a false e = omega (arith, ints)

-- an operation is worth no less if nothing that adds is cancelled besides
worth-more : (us vs : List Shadow) (a : Place) (u : Shadow) → (is_cancelled us u.name ≡ true → is_cancelled vs u.name ≡ true) →
    (adds u.kind ≡ true → is_cancelled vs u.name ≡ true → is_cancelled us u.name ≡ true) → Balances.worth us a u ≤ℤ Balances.worth vs a u
worth-more us vs a u there back = elim (Members.bool_cases (adds u.kind)) [
  | inl e ↦ adds_same (not (is_some (target_of u.kind))) (is_cancelled us u.name) (is_cancelled vs u.name) (delta u a)
      (Members.both-same _ _ there (back e))
  | inr e ↦ takes_more (not (is_some (target_of u.kind))) (is_cancelled us u.name) (is_cancelled vs u.name) (delta u a)
      (nothing_added u.kind u.amount a (u.account.0 == a.0) e) there
]

-- a balance is no less with more operations, of which none takes and none cancels what adds
pub bal-more : (s : Settings) (us vs : List Shadow) (a : Place) → IsUnique us → IsUnique vs → IsPart us vs
    → ((v : Shadow) → Among v vs → names us v.name ≡ false → takes v.kind ≡ false)
    → ((u c : Shadow) → Among u us → Among c vs → cancels c.kind u.name ≡ true → adds u.kind ≡ true → Among c us)
    → bal s us a ≤ℤ bal s vs a
bal-more s us vs a uu uv part none_taken none_undone =
    omega (
      arith,
      ints,
      Balances.bal-worth s us a,
      Balances.bal-worth s vs a,
      Totals.total-le (Balances.worth us a) (Balances.worth vs a) us (λ u h. worth-more us vs a u
          (Balances.cancelled-part us vs u.name part) (undone u h)),
      Balances.total-part (Balances.worth vs a) us vs uu uv part (λ v h k. worth-none_taken vs a v (none_taken v h k)),
    )
  where
    undone : (u : Shadow) → Among u us → adds u.kind ≡ true → is_cancelled vs u.name ≡ true → is_cancelled us u.name ≡ true
    undone u h e k = let (c, there, by) = Balances.cancelled_by vs u.name k in
        Balances.cancelled us c u.name (none_undone u c h there by e) by

-- ---- the last red operation

-- of two different red operations one precedes the other
abbrev pub RedsInLine : List Shadow → Type 0
RedsInLine all = (u v : Shadow) → Among u all → Among v all → is_red u.name ≡ true → is_red v.name ≡ true → u.name ≢ v.name →
    Precedes u v ⊎ Precedes v u

-- what precedes one that precedes another precedes it
abbrev pub IsTransitive : List Shadow → Type 0
IsTransitive all = (t u v : Shadow) → Among t all → Among u all → Among v all → Precedes t u → Precedes u v → Precedes t v

-- no operation is red, or one is and all red ones precede it or are it
abbrev pub LastRed : List Shadow → Type 0
LastRed vs = ((v : Shadow) → Among v vs → is_red v.name ≡ false) ⊎ ((r : Shadow) × Among r vs × (is_red r.name ≡ true)
    × ((v : Shadow) → Among v vs → is_red v.name ≡ true → (v.name ≡ r.name) ⊎ Precedes v r))

-- a part has a last red operation, or none
pub last_red : (all vs : List Shadow) → RedsInLine all → IsTransitive all → IsPart vs all → LastRed vs
last_red all [] line trans part = inl (λ v h. elim h [ ])
last_red all (v ∷ vs) line trans part = at (Members.bool_cases (is_red v.name)) (last_red all vs line trans (λ u h. part u (inr h)))
  where
    first : ((u : Shadow) → Among u vs → is_red u.name ≡ false) → (u : Shadow) → Among u (v ∷ vs) → is_red u.name ≡ true →
        (u.name ≡ v.name) ⊎ Precedes u v
    first none u (inl h) k = inl (ap (λ (w : Shadow). w.name) h)
    first none u (inr h) k = absurd (Members.true≢false (sym k ∙ none u h))

    no : is_red v.name ≡ false → ((u : Shadow) → Among u vs → is_red u.name ≡ false) → (u : Shadow) → Among u (v ∷ vs) →
        is_red u.name ≡ false
    no e none u (inl h) = ap (λ (w : Shadow). is_red w.name) h ∙ e
    no e none u (inr h) = none u h

    same : (r : Shadow) → is_red v.name ≡ false → ((u : Shadow) → Among u vs → is_red u.name ≡ true → (u.name ≡ r.name) ⊎ Precedes u r) →
        (u : Shadow) → Among u (v ∷ vs) → is_red u.name ≡ true → (u.name ≡ r.name) ⊎ Precedes u r
    same r e last u (inl h) k = absurd (Members.true≢false (sym k ∙ ap (λ (w : Shadow). is_red w.name) h ∙ e))
    same r e last u (inr h) k = last u h k

    before : (r : Shadow) → (v.name ≡ r.name) ⊎ Precedes v r → ((u : Shadow) → Among u vs → is_red u.name ≡ true →
        (u.name ≡ r.name) ⊎ Precedes u r) → (u : Shadow) → Among u (v ∷ vs) → is_red u.name ≡ true → (u.name ≡ r.name) ⊎ Precedes u r
    before r (inl e) last u (inl h) k = inl (ap (λ (w : Shadow). w.name) h ∙ e)
    before r (inr p) last u (inl h) k = inr (subst (λ w. Precedes w r) (sym h) p)
    before r e last u (inr h) k = last u h k

    after : (r : Shadow) → Among r vs → Precedes r v → ((u : Shadow) → Among u vs → is_red u.name ≡ true → (u.name ≡ r.name) ⊎ Precedes u r)
        → (u : Shadow) → Among u (v ∷ vs) → is_red u.name ≡ true → (u.name ≡ v.name) ⊎ Precedes u v
    after r there p last u (inl h) k = inl (ap (λ (w : Shadow). w.name) h)
    after r there p last u (inr h) k = elim (last u h k) [
      | inl e ↦ inr (ap (past v) e ∙ p)
      | inr q ↦ inr (trans u r v (part u (inr h)) (part r (inr there)) (part v (inl refl)) q p)
    ]

    at : (is_red v.name ≡ true) ⊎ (is_red v.name ≡ false) → LastRed vs → LastRed (v ∷ vs)
    at (inl e) (inl none) = inr (v, inl refl, e, first none)
    at (inr e) (inl none) = inl (no e none)
    at (inr e) (inr (r, there, red, last)) = inr (r, inr there, red, same r e last)
    at (inl e) (inr (r, there, red, last)) = elim (Members.bool_cases (same_name v.name r.name)) [
      | inl q ↦ inr (r, inr there, red, before r (inl (Members.same_name-true v.name r.name q)) last)
      | inr q ↦ elim (line v r (part v (inl refl)) (part r (inr there)) e red (λ n. Members.true≢false (sym (Members.same_name-refl v.name)
          ∙ ap (same_name v.name) n ∙ q))) [
            | inl p ↦ inr (r, inr there, red, before r (inr p) last)
            | inr p ↦ inr (v, inl refl, e, after r there p last)
          ]
    ]

-- ---- a closed part of the operations covers every account

-- what the red operations of a set rest on: each comes where its home had covered it, and what adds is cancelled by red
-- ones alone
pub record IsCovered (s : Settings) (all : List Shadow) : Type 0 where
  pub taken_red : (u : Shadow) → Among u all → takes u.kind ≡ true → is_red u.name ≡ true
  pub cancel_red : (u c : Shadow) → Among u all → Among c all → cancels c.kind u.name ≡ true → adds u.kind ≡ true → is_red c.name ≡ true
  pub checked : (r : Shadow) → Among r all → is_red r.name ≡ true →
      (before : List Shadow) × IsPart before all × IsUnique before × AreSame (names before) (past r)
      × ((a : Place) → pos 0 ≤ℤ bal s (before ++ r ∷ []) a)

-- if there are no operations, a balance is the start
at_start : (s : Settings) (a : Place) → pos (start_of s a) ≤ℤ bal s [] a
unfolding bal
at_start s a = omega (arith, ints)

-- no operations leave no balance below zero
pub nothing_less : (s : Settings) (a : Place) → pos 0 ≤ℤ bal s [] a
nothing_less s a = let start : pos 0 ≤ℤ pos (start_of s a) = omega (arith, ints) in omega (arith, ints, start, at_start s a)

not_taking : (k : Kind) → (takes k ≡ true → ⊥) → takes k ≡ false
not_taking k h = elim (Members.bool_cases (takes k)) [ inl e ↦ absurd (h e) | inr e ↦ e ]

-- a closed part has no less than the last red operation's past with it
above_last : (s : Settings) (all vs before : List Shadow) (r : Shadow) (a : Place)
    → IsUnique all → IsCovered s all → ¬ Precedes r r
    → IsPart vs all → IsUnique vs → IsClosed vs
    → Among r vs → ((v : Shadow) → Among v vs → is_red v.name ≡ true → (v.name ≡ r.name) ⊎ Precedes v r)
    → IsPart before all → IsUnique before → AreSame (names before) (past r)
    → bal s (before ++ r ∷ []) a ≤ℤ bal s vs a
above_last s all vs before r a unique covered alone part uv closed there last inside ub is_past =
    bal-more s us vs a uu uv us_in_vs
    (λ v h k. not_taking v.kind (λ e. Members.true≢false (sym (red_named v h (covered.taken_red v (part v h) e)) ∙ k)))
    (λ u c h k e p. us_has c k (red_named c k (covered.cancel_red u c (us_in_all u h) (part c k) e p)))
  where
    us : List Shadow
    us = before ++ r ∷ []

    named_in : (x : OpName) → (names before x ≡ true) ⊎ (r.name ≡ x) → names us x ≡ true
    named_in x (inl e) = Members.names-append before (r ∷ []) x ∙ ap (λ b. b || names (r ∷ []) x) e
    named_in x (inr e) = Members.names-append before (r ∷ []) x ∙ Members.or-right (names before x) (names (r ∷ []) x) (ap (λ b. b
        || false) (ap (same_name r.name) (sym e) ∙ Members.same_name-refl r.name))

    uu : IsUnique us
    uu = Members.IsUnique-push before r ub (is_past r.name ∙ elim (Members.bool_cases (past r r.name)) [
      | inl e ↦ absurd (alone e)
      | inr e ↦ e
    ])

    us_in_all : IsPart us all
    us_in_all u h = elim (Members.Among-cases before (r ∷ []) u h) [ inl k ↦ inside u k | inr k ↦ one u k ]
      where
        one : (u : Shadow) → Among u (r ∷ []) → Among u all
        one u (inl e) = subst (λ w. Among w all) (sym e) (part r there)
        one u (inr k) = elim k [ ]

    within : IsWithin (names us) (names vs)
    within x h = elim (Members.or-true (names before x) (names (r ∷ []) x) (sym (Members.names-append before (r ∷ []) x) ∙ h)) [
      | inl e ↦ closed r there x (sym (is_past x) ∙ e)
      | inr e ↦ ap (names vs) (sym (only x e)) ∙ Members.named vs r there
    ]
      where
        only : (x : OpName) → names (r ∷ []) x ≡ true → r.name ≡ x
        only x e = elim (Members.or-true (same_name r.name x) false e) [
          | inl k ↦ Members.same_name-true r.name x k
          | inr k ↦ absurd (Members.true≢false (sym k))
        ]

    us_in_vs : IsPart us vs
    us_in_vs = Balances.part_by_names all us vs unique us_in_all part within

    red_named : (v : Shadow) → Among v vs → is_red v.name ≡ true → names us v.name ≡ true
    red_named v h e = elim (last v h e) [
      | inl q ↦ named_in v.name (inr (sym q))
      | inr q ↦ named_in v.name (inl (is_past v.name ∙ q))
    ]

    us_has : (c : Shadow) → Among c vs → names us c.name ≡ true → Among c us
    us_has c h k = let (w, here, e) = Members.find_named us c.name k in
        subst (λ u. Among u us) (Members.same_named all w c unique (us_in_all w here) (part c h) e) here

-- each balance of a closed part has its source
pub funded : (s : Settings) (all vs : List Shadow) (a : Place)
    → IsUnique all → RedsInLine all → IsTransitive all → ((u : Shadow) → Among u all → ¬ Precedes u u) → IsCovered s all
    → IsPart vs all → IsUnique vs → IsClosed vs → IsFunded s all vs a
funded s all vs a unique line trans irreflexive covered part uv closed = at (last_red all vs line trans part)
  where
    red_if_taking : (v : Shadow) → Among v vs → takes v.kind ≡ true → is_red v.name ≡ true
    red_if_taking v h e = covered.taken_red v (part v h) e

    at : LastRed vs → IsFunded s all vs a
    at (inl none) = inl (
      none,
      omega (
        arith,
        ints,
        at_start s a,
        bal-more s [] vs a tt uv (λ u h. elim h [ ])
            (λ v h k. not_taking v.kind (λ e. Members.true≢false (sym (red_if_taking v h e) ∙ none v h)))
            (λ u c h. elim h [ ]),
      ),
    )
    at (inr (r, there, red, last)) =
        let (before, inside, ub, is_past, ok) = covered.checked r (part r there) red in
        inr (
          r,
          there,
          red,
          last,
          before,
          inside,
          ub,
          is_past,
          ok a,
          above_last s all vs before r a unique covered
              (irreflexive r (part r there)) part uv closed there last inside ub is_past,
        )

-- no balance of a closed part is negative
pub never_negative : (s : Settings) (all vs : List Shadow) (a : Place)
    → IsUnique all → RedsInLine all → IsTransitive all → ((u : Shadow) → Among u all → ¬ Precedes u u) → IsCovered s all
    → IsPart vs all → IsUnique vs → IsClosed vs → pos 0 ≤ℤ bal s vs a
never_negative s all vs a unique line trans irreflexive covered part uv closed =
    at (funded s all vs a unique line trans irreflexive covered part uv closed)
  where
    at : IsFunded s all vs a → pos 0 ≤ℤ bal s vs a
    at (inl (none, enough)) = let start : pos 0 ≤ℤ pos (start_of s a) = omega (arith, ints) in omega (arith, ints, start, enough)
    at (inr (r, there, red, last, before, inside, ub, is_past, ok, more)) = omega (arith, ints, ok, more)
