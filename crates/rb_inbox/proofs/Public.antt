-- The shadows that are held, and those that can be.
use Rattle.std.proofs.Common.{refl, ap, sym, ◌≡◌, ◌∙◌, ◌≤◌, Bool, true, false, cond, ◌||◌, ◌&&◌, List, [], ◌∷◌, ◌⊎◌, inl, inr, arith}
use Rattle.std.proofs.lemmas.Bool.Decides.{nat_tests}
use Rattle.rb_money.specs.Settings.{Settings}
use Rattle.rb_shadow.specs.declared.deps.Deps.{Deps}
use Rattle.rb_shadow.specs.declared.op_name.OpName.{OpName}
use Rattle.rb_shadow.specs.declared.op_name.OpName.TheVariants.{Blue, Red}
use Rattle.rb_shadow.specs.declared.shadow.Shadow.{Shadow}
use Rattle.rb_shadow.proofs.Public.Lookups.{found}
use Rattle.rb_shadow.specs.Sound.{IsSound}
use Rattle.rb_shadow.proofs.Public.SoundFacts.{is_next, sound_facts}
use Rattle.rb_inbox.specs.Held.{IsFirstReady, IsNumbered, comes_before, is_applied_before, is_sooner, with_held}
use Rattle.std.specs.Prelude.{filter, nat_lt, ◌==◌}
use Rattle.rb_shadow.specs.Operations.{Among}

-- a sound shadow may be held
pub sound_numbered : (s : Settings) (v : Shadow) → IsSound s v → IsNumbered v
sound_numbered s v h = record { home = (sound_facts s v h).own; next = sym (is_next s v h).own }

-- what is kept of a list is of the list
pub kept_among : (p : Shadow → Bool) (us : List Shadow) (u : Shadow) → Among u (filter p us) → Among u us
kept_among p [] u h = elim h [ ]
kept_among p (v ∷ us) u h = at (p v) h (kept_among p us u)
  where
    at : (b : Bool) → Among u (cond b (v ∷ filter p us) (filter p us)) → (Among u (filter p us) → Among u us) → Among u (v ∷ us)
    at true (inl e) rest = inl e
    at true (inr k) rest = inr (rest k)
    at false k rest = inr (rest k)

-- what is held after one more is that or was held
pub held_cases : (v : Shadow) (us : List Shadow) (u : Shadow) → Among u (with_held v us) → (u ≡ v) ⊎ Among u us
held_cases v [] u (inl e) = inl e
held_cases v [] u (inr h) = elim h [ ]
held_cases v (w ∷ us) u h = at (comes_before v.name w.name) h (held_cases v us u)
  where
    at : (b : Bool) → Among u (cond b (v ∷ w ∷ us) (w ∷ with_held v us)) → (Among u (with_held v us) → (u ≡ v) ⊎ Among u us) →
        (u ≡ v) ⊎ Among u (w ∷ us)
    at true (inl e) rest = inl e
    at true (inr k) rest = inr k
    at false (inl e) rest = inr (inl e)
    at false (inr k) rest = elim (rest k) [ inl e ↦ inl e | inr q ↦ inr (inr q) ]

-- ---- the order in which ready operations are applied

-- what is applied before has no greater home
pub home_before : (u v : Shadow) → is_applied_before u v ≡ true → u.home ≤ v.home
home_before u v h = at (is_sooner u.name v.name) h
  where
    at : (b : Bool) → (nat_lt u.home v.home || ((u.home == v.home) && b)) ≡ true → u.home ≤ v.home
    at b e = grind (arith, nat_tests)

-- of two names neither is sooner than a sooner one
sooner_one_way : (x y : OpName) → is_sooner x y ≡ true → is_sooner y x ≡ true → ⊥
sooner_one_way (Blue i m) (Blue j n) h k = grind (arith, nat_tests)
sooner_one_way (Blue i m) (Red n) h k = cc
sooner_one_way (Red m) (Blue j n) h k = cc
sooner_one_way (Red m) (Red n) h k = grind (arith, nat_tests)

-- of two operations one is applied before the other only
before_one_way : (u v : Shadow) → is_applied_before u v ≡ true → is_applied_before v u ≡ true → ⊥
before_one_way u v h k = at (is_sooner u.name v.name) (is_sooner v.name u.name) refl refl h k
  where
    at : (b c : Bool) → is_sooner u.name v.name ≡ b → is_sooner v.name u.name ≡ c
        → (nat_lt u.home v.home || ((u.home == v.home) && b)) ≡ true → (nat_lt v.home u.home || ((v.home == u.home) && c)) ≡ true → ⊥
    at true true e f h k = sooner_one_way u.name v.name e f
    at true false e f h k = grind (arith, nat_tests)
    at false true e f h k = grind (arith, nat_tests)
    at false false e f h k = grind (arith, nat_tests)

-- there is one first of those that are ready
pub first_is_one : (us : List Shadow) (c : Deps) (x y : OpName) → IsFirstReady us c x → IsFirstReady us c y → x ≡ y
first_is_one us c x y a b = at (a.2.first b.0 b.2.among b.2.ready) (b.2.first a.0 a.2.among a.2.ready)
  where
    named : b.0 ≡ a.0 → x ≡ y
    named e = sym (found us x a.0 a.1).1 ∙ sym (ap (λ (w : Shadow). w.name) e) ∙ (found us y b.0 b.1).1

    at : (b.0 ≡ a.0) ⊎ (is_applied_before a.0 b.0 ≡ true) → (a.0 ≡ b.0) ⊎ (is_applied_before b.0 a.0 ≡ true) → x ≡ y
    at (inl e) q = named e
    at (inr h) (inl e) = named (sym e)
    at (inr h) (inr k) = absurd (before_one_way a.0 b.0 h k)
