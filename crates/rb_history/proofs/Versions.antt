-- A configuration in a version that its sites may have.
use Rattle.rb_history.proofs.Words.{◌≡◌, ℕ, List, Bool, true, false, Some, None, refl, sym, ap, subst, ◌∙◌, ◌==◌, ◌&&◌, ◌||◌, if◌then◌else◌}
use Rattle.rb_history.proofs.Words.{is_none, nat_le, and_parts, eqb-true, ne_eqb, Account, config_fault, settings_of, Limits, Settings}
use Rattle.rb_history.proofs.Words.{in_version_2, version_of, MOST_SITES_OF_VERSION_1, config_from, is_version}
use Rattle.rb_money.specs.declared.fault.ConfigFault.{ConfigFault}

left : (b : Bool) → (b || false) ≡ true → b ≡ true
left true h = refl
left false h = h

-- other than in version 2 it is as it was made
pub stays : (s : Settings) (version : ℕ) → s.version ≡ version_of s.sites → is_version version s.sites ≡ true → (version ≡ 2 → ⊥) →
    s ≡ record s { version = version }
stays s version made allowed other =
    let few = nat_le s.sites MOST_SITES_OF_VERSION_1 in
    let none : (version == 2) ≡ false = ne_eqb version 2 other in
    let both = left ((version == 1) && few) (subst (λ b. (((version == 1) && few) || b) ≡ true) none allowed) in
    let p = and_parts (version == 1) few both in
    let one : version ≡ 1 = eqb-true version 1 p.0 in
    let first : version_of s.sites ≡ 1 = rw p.1 refl in
    ap (λ v. record s { version = v }) (made ∙ first ∙ sym one)

-- in version 2 it is what version 2 makes of it
pub is_second : (s r : Settings) (version : ℕ) → r ≡ in_version_2 s → version ≡ 2 → r ≡ record s { version = version }
is_second s r version is two = is ∙ ap (λ v. record s { version = v }) (sym two)

-- ---- the configuration of some parts

-- a configuration that was made has the version of its sites
pub made_version : (s : Settings) (sites : ℕ) (accounts : List Account) (limits : Limits) → s ≡ settings_of sites accounts limits →
    s.version ≡ version_of s.sites
made_version s sites accounts limits is = ap (λ (t : Settings). t.version) is ∙ ap (λ (t : Settings). version_of t.sites) (sym is)

-- its sites may have the version that they might have before it was made
pub still_allowed : (s : Settings) (version sites : ℕ) (accounts : List Account) (limits : Limits) → s ≡ settings_of sites accounts limits →
    is_version version sites ≡ true → is_version version s.sites ≡ true
still_allowed s version sites accounts limits is allowed = ap (λ (t : Settings). is_version version t.sites) is ∙ allowed

-- the parts of a configuration that was made are read as it, in the version of the line
pub from_parts : (version sites : ℕ) (limits : Limits) (accounts : List Account) (s r : Settings) → is_version version sites ≡ true →
    config_fault sites accounts limits ≡ None → s ≡ settings_of sites accounts limits → r ≡ record s { version = version }
    → config_from version sites limits accounts ≡ Some r
from_parts version sites limits accounts s r allowed none is made = rw (
  allowed,
  none,
) (ap Some (ap (λ (t : Settings). record t { version = version }) (sym is) ∙ sym made))

-- no configuration has a version that its sites may not have
pub not_allowed : (version sites : ℕ) (limits : Limits) (accounts : List Account) → is_version version sites ≡ false →
    config_from version sites limits accounts ≡ None
not_allowed version sites limits accounts wrong = rw wrong refl

-- nor is there one of faulty parts
pub faulty : (version sites : ℕ) (limits : Limits) (accounts : List Account) (fault : ConfigFault) →
    config_fault sites accounts limits ≡ Some fault → config_from version sites limits accounts ≡ None
faulty version sites limits accounts fault is = by (is_version version sites)
  where
    by : (b : Bool) → (if b && is_none (config_fault sites accounts limits)
        then Some (record (settings_of sites accounts limits) { version = version }) else None) ≡ None
    by true = rw is refl
    by false = refl
