-- Facts of a sound shadow.
use Rattle.std.proofs.Common.{◌≡◌, ℕ, ◌+◌, ◌≤◌, Bool, true, false, cond, not, ◌&&◌, length, refl, arith}
use Rattle.std.specs.Prelude.{nat_le, nat_lt, ◌==◌, ◌||◌, Option, Some, None, is_some}
use Rattle.std.proofs.lemmas.Bool.Decides.{nat_tests}
use Rattle.rb_money.specs.Refusals.{unless}
use Rattle.rb_money.specs.Settings.{Settings}
use Rattle.rb_money.specs.declared.limits.TheConstants.{MOST_SITES}
use Rattle.rb_money.specs.declared.cents.TheConstants.{MOST_CENTS}
use Rattle.rb_money.specs.declared.place.Place.{Place}
use Rattle.rb_money.proofs.Public.Tests.{alike}
use Rattle.rb_shadow.specs.declared.shadow.Shadow.{Shadow}
use Rattle.rb_shadow.specs.declared.op_name.OpName.{OpName}
use Rattle.rb_shadow.specs.declared.op_name.OpName.TheVariants.{Blue, Red}
use Rattle.rb_shadow.specs.Operations.{number_of, entry_of, receiver_of, target_of, names_of_clock, same_colour, shown_colour, colour_of}
use Rattle.rb_shadow.specs.Sound.{fault_of, IsSound, are_entries, is_absent, is_foreign, limit_of, may_be_nothing}
use Rattle.rb_shadow.proofs.Public.Members
use Rattle.rb_shadow.proofs.Public.Clocks.{IsNext, IsHoused}

-- a receiver is no account of the configuration, or the own account
abbrev pub is_misdirected : ℕ → Place → Option Place → Bool
is_misdirected accounts own receiver = unless (λ to. nat_le accounts to.0 || (to.0 == own.0)) receiver false

-- the tests of `fault_of`, each passed
pub record SoundFacts (s : Settings) (v : Shadow) : Type 0 where
  pub home : nat_le s.sites v.home ≡ false
  pub own : is_foreign v.name v.home ≡ false
  pub numbered : (number_of v.name == 0) ≡ false
  pub within : nat_lt (limit_of s.limits v.name) (number_of v.name) ≡ false
  pub account : nat_le (length s.starts) v.account.0 ≡ false
  pub receiver : is_misdirected (length s.starts) v.account (receiver_of v.kind) ≡ false
  pub amount : nat_lt MOST_CENTS v.amount ≡ false
  pub something : (v.amount == 0 && not (may_be_nothing v.kind)) ≡ false
  pub coloured : (not (is_some (target_of v.kind)) && not (same_colour (shown_colour v.name) (colour_of v.kind None))) ≡ false
  pub seen : unless (λ x. is_absent s.sites x || not (names_of_clock v.deps x)) (target_of v.kind) false ≡ false
  pub clock : not (are_entries s.sites s.limits.blue v.deps.blue && nat_le v.deps.red s.limits.red) ≡ false
  pub entry : not (entry_of v.deps v.name + 1 == number_of v.name) ≡ false

go_on : (b : Bool) (w : ℕ) (r : Option ℕ) → cond b (Some w) r ≡ None → (b ≡ false) × (r ≡ None)
go_on true w r e = cc
go_on false w r e = (refl, e)

-- the tests that a sound shadow passes
pub sound_facts : (s : Settings) (v : Shadow) → IsSound s v → SoundFacts s v
unfolding fault_of
sound_facts s v h =
    let (f1, h1) = go_on _ _ _ h in
    let (f2, h2) = go_on _ _ _ h1 in
    let (f3, h3) = go_on _ _ _ h2 in
    let (f4, h4) = go_on _ _ _ h3 in
    let (f5, h5) = go_on _ _ _ h4 in
    let (f6, h6) = go_on _ _ _ h5 in
    let (f7, h7) = go_on _ _ _ h6 in
    record {
      home = (Members.or-false _ _ f1).0;
      own = (Members.or-false _ _ f1).1;
      numbered = (Members.or-false _ _ f2).0;
      within = (Members.or-false _ _ f2).1;
      account = (Members.or-false _ _ f3).0;
      receiver = (Members.or-false _ _ f3).1;
      amount = (Members.or-false _ _ f4).0;
      something = (Members.or-false _ _ f4).1;
      coloured = f5;
      seen = f6;
      clock = (Members.or-false _ _ f7).0;
      entry = (Members.or-false _ _ f7).1;
    }

-- its number is the next after its past
pub is_next : (s : Settings) (v : Shadow) → IsSound s v → IsNext v
is_next s v h = let f = sound_facts s v h in record {
  positive = positive (number_of v.name) f.numbered;
  own = alike (entry_of v.deps v.name + 1) (number_of v.name) f.entry;
}
  where
    positive : (n : ℕ) → (n == 0) ≡ false → 1 ≤ n
    positive n e = grind (arith, nat_tests)

-- its site is one of those that there may be
pub is_housed : (s : Settings) (v : Shadow) → s.sites ≤ MOST_SITES → IsSound s v → IsHoused v.name
is_housed s v few h = let f = sound_facts s v h in at v.name s.sites v.home few f.home f.own
  where
    at : (x : OpName) (sites home : ℕ) → sites ≤ MOST_SITES → nat_le sites home ≡ false → is_foreign x home ≡ false → IsHoused x
    at (Blue i n) sites home few near e = grind (arith, nat_tests)
    at (Red n) sites home few near e = tt

-- its name is of one of the sites
pub is_present : (s : Settings) (v : Shadow) → SoundFacts s v → is_absent s.sites v.name ≡ false
is_present s v f = at v.name s.sites v.home f.home f.own
  where
    at : (x : OpName) (sites home : ℕ) → nat_le sites home ≡ false → is_foreign x home ≡ false → is_absent sites x ≡ false
    at (Blue i n) sites home near e = grind (arith, nat_tests)
    at (Red n) sites home near e = refl
