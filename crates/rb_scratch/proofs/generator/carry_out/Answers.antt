-- A decision is carried out as the model says.
use Rattle.std.proofs.Common.{◌≡◌, ◌≤◌, refl, ap, sym, subst, ◌∙◌, Result, Err, ℕ}
use Rattle.rb_money.specs.Settings.{Settings}
use Rattle.rb_money.specs.declared.limits.TheConstants.{MOST_SITES}
use Rattle.rb_money.specs.declared.refusal.Refusal.{Refusal}
use Rattle.rb_shadow.specs.declared.shadow.Shadow.{Shadow}
use Rattle.rb_shadow.specs.declared.colour.Colour.{Colour}
use Rattle.rb_shadow.specs.declared.colour.Colour.TheVariants.{Blue as BlueColour, Red as RedColour}
use Rattle.rb_scratch.specs.Effects.{plan_of_effect}
use Rattle.rb_scratch.proofs.Public.Errors.{error_is}
use Rattle.rb_scratch.proofs.Generated
use Rattle.rb_scratch.proofs.Tokens
use Rattle.rb_scratch.proofs.Public.Makes
use Rattle.rb_scratch.proofs.Originals
use Rattle.rb_scratch.proofs.generator.carry_out.Goals as goal

few_sites : (s t : Settings) (n : ℕ) → t ≡ s → n ≡ t.sites → n ≤ MOST_SITES → s.sites ≤ MOST_SITES
few_sites s t n is same few = subst (λ (u : Settings). u.sites ≤ MOST_SITES) is (subst (λ k. k ≤ MOST_SITES) same few)

abbrev refused : Refusal → Result Shadow Refusal
refused why = Err why

blue : (k : Colour) → (k ≡ RedColour → ⊥) → k ≡ BlueColour
blue BlueColour other = refl
blue RedColour other = absurd (other refl)

pub returns-in_err-shadow-clause-made : goal.returns-in_err-shadow-clause-made
returns-in_err-shadow-clause-made c = λ known shows. error_is c.from_residual.result c.in_err-shadow.field-0.0 c.from_residual.ensures.1
    ∙ ap refused c.in_err-shadow.ensures.0
    ∙ sym (Generated.exhausted _ _ _ known _ _ (c.requires.plan).1 c.in_err-shadow.ensures.1)
    ∙ Generated.planned _ _ _ known _ _ (c.requires.plan).1

pub permit_red-requires : goal.permit_red-requires
permit_red-requires c =
    Makes.refused_for_money c.args.ledger.now.settings c.args.token.now.me c.args.ledger.now.entries (c.requires.plan).0
    (plan_of_effect c.args.effect) _
    (few_sites _ _ _ c.config.ensures.same c.sites-sites.ensures.same c.sites-sites.ensures.few) c.requires.site c.config.ensures.valid
    (c.requires.plan).1 c.in_ok-shadow.ensures.0 c.in_ok-shadow.ensures.1

pub returns-in_default-clause-made : goal.returns-in_default-clause-made
returns-in_default-clause-made c = λ known shows. sym (Generated.blue_made _ _ _ known _ _ _ (c.requires.plan).1 c.in_ok-shadow.ensures.0
    c.in_ok-shadow.ensures.1 (sym c.requires.colour ∙ blue _ c.in_default.not-Red)) ∙ Generated.planned _ _ _ known _ _ (c.requires.plan).1

pub returns-in_default-clause-valid : goal.returns-in_default-clause-valid
returns-in_default-clause-valid c =
    Makes.made_is_valid _ _ _ (Tokens.seen c.args.token.now) (c.requires.plan).0 _
    (few_sites _ _ _ c.config.ensures.same c.sites-sites.ensures.same c.sites-sites.ensures.few) c.requires.site c.config.ensures.valid
    (Generated.blue_made _ _ _ _ _ _ _ (c.requires.plan).1 c.in_ok-shadow.ensures.0 c.in_ok-shadow.ensures.1 (sym c.requires.colour
    ∙ blue _ c.in_default.not-Red))

pub returns-in_ok-permit_red-clause-made : goal.returns-in_ok-permit_red-clause-made
returns-in_ok-permit_red-clause-made c =
    λ known shows. sym (Generated.red_made _ _ _ known _ _ _ (c.requires.plan).1
    c.in_ok-shadow.ensures.0 c.in_ok-shadow.ensures.1 (sym c.requires.colour
    ∙ c.in-Red.is) ∙ c.in_ok-permit_red.ensures known shows) ∙ Generated.planned _ _ _ known _ _ (c.requires.plan).1

pub returns-in_ok-permit_red-clause-valid : goal.returns-in_ok-permit_red-clause-valid
returns-in_ok-permit_red-clause-valid c =
    Makes.made_is_valid _ _ _ (Tokens.seen c.args.token.now) (c.requires.plan).0 _
    (few_sites _ _ _ c.config.ensures.same c.sites-sites.ensures.same c.sites-sites.ensures.few) c.requires.site c.config.ensures.valid
    (
    Generated.red_made _ _ _ _ _ _ _ (c.requires.plan).1
    c.in_ok-shadow.ensures.0 c.in_ok-shadow.ensures.1 (sym c.requires.colour ∙ c.in-Red.is)
    ∙ c.in_ok-permit_red.ensures (Tokens.seen c.args.token.now) (Tokens.seen_shows c.args.token.now)
    )

pub returns-in_err-permit_red-clause-made : goal.returns-in_err-permit_red-clause-made
returns-in_err-permit_red-clause-made c = λ known shows.
    error_is c.from_residual-in_err-permit_red.result c.in_err-permit_red.field-0.0 c.from_residual-in_err-permit_red.ensures.1
    ∙ sym (Generated.red_made _ _ _ known _ _ _ (c.requires.plan).1 c.in_ok-shadow.ensures.0 c.in_ok-shadow.ensures.1
    (sym c.requires.colour ∙ c.in-Red.is) ∙ c.in_err-permit_red.ensures known shows) ∙ Generated.planned _ _ _ known _ _ (c.requires.plan).1

pub returns-in_default-clause-kind : goal.returns-in_default-clause-kind
returns-in_default-clause-kind c = Originals.kind_of_plan c.args.token.now.me _ _ _ c.in_ok-shadow.ensures.0

pub returns-in_ok-permit_red-clause-kind : goal.returns-in_ok-permit_red-clause-kind
returns-in_ok-permit_red-clause-kind c = Originals.kind_of_plan c.args.token.now.me _ _ _ c.in_ok-shadow.ensures.0

pub returns-in_default-clause-original : goal.returns-in_default-clause-original
returns-in_default-clause-original c = λ request planned. Originals.plan_original _ c.args.token.now.me _ _ _ request c.config.ensures.valid
    c.in_ok-shadow.ensures.0 planned

pub returns-in_ok-permit_red-clause-original : goal.returns-in_ok-permit_red-clause-original
returns-in_ok-permit_red-clause-original c = λ request planned. Originals.plan_original _ c.args.token.now.me _ _ _ request
    c.config.ensures.valid c.in_ok-shadow.ensures.0 planned
