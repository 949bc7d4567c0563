-- An operation that a request makes at a valid list may follow it.
use Rattle.rb_money.specs.Refusals.{unless}
use Rattle.std.proofs.Common.{◌≡◌, ℕ, ◌<◌, ◌≤◌, true, false, cond, List, [], ◌∷◌, ◌++◌, refl, ap, sym}
use Rattle.std.proofs.Common.{◌∙◌, subst, Some, None, Ok}
use Rattle.rb_money.specs.Settings.{Settings}
use Rattle.rb_money.specs.declared.limits.TheConstants.{MOST_SITES}
use Rattle.rb_shadow.specs.declared.shadow.Shadow.{Shadow}
use Rattle.rb_shadow.specs.Operations.{names, is_eligible, colour_in, number_of}
use Rattle.rb_shadow.specs.Operations.{shown_colour, target_of, same_colour}
use Rattle.rb_shadow.specs.Sound.{IsSound, limit_of}
use Rattle.rb_ledger.specs.Valid.{IsValid}
use Rattle.rb_ledger.specs.Checks.{overdraws, refusal_of, has_wrong_target, refusal_of_sound}
use Rattle.rb_money.specs.declared.refusal.Refusal.TheVariants.{WouldOverdraw, BadMessage}
use Rattle.rb_shadow.proofs.Public.Eligible
use Rattle.rb_ledger.proofs.Public.Legal
use Rattle.rb_token.specs.Token.{Token}
use Rattle.rb_scratch.specs.declared.request.Request.{Request}
use Rattle.rb_scratch.specs.Requests.{Plan, operation_of, plan_of, made_of}
use Rattle.rb_scratch.proofs.Public.Made
use Rattle.rb_scratch.proofs.Public.Made.{IsAllowed, IsMadeAt}
use Rattle.rb_scratch.proofs.Planned
use Rattle.rb_scratch.proofs.Planned.{Cancels, IsPlanned}
use Rattle.rb_scratch.proofs.Tokens.{shows}
use Rattle.rb_scratch.proofs.Covered.{covered}
use Rattle.rb_scratch.proofs.Public.Fits.{IsFit, fit, fresh_name, operation_is, plan_follows, plan_sound, seen_past, shadow_of}

-- what a site makes at a valid list may follow it
pub made_follows : (s : Settings) (me : ℕ) (us : List Shadow) (token : Token) (v : Shadow) → s.sites ≤ MOST_SITES → me < s.sites →
    IsValid s us → IsMadeAt s me us token v → Legal.MayFollow s us v
made_follows s me us token v few here valid m =
    let is : v ≡ shadow_of me us m.plan = m.is ∙ operation_is me us m.plan in
    let planned : IsPlanned s us m.plan m.plan.kind = Planned.planned s us m.request m.plan m.planned in
    let fits : IsFit s me us m.plan = fit s me us m.plan m.plan.kind valid refl planned (subst (λ (u : Shadow). number_of u.name
    ≤ limit_of s.limits u.name) is m.within) in
    subst (Legal.MayFollow s us) (sym is)
    (plan_follows s me us m.plan few here valid fits
    (covered s me us token m.plan m.plan.kind valid refl planned fits.target
    (subst (λ (u : Shadow). IsAllowed s us token u u.name) is m.fair)))

-- what a request makes at a valid list may be added to it
pub made_is_valid : (s : Settings) (me : ℕ) (us : List Shadow) (token : Token) (r : Request) (v : Shadow) → s.sites ≤ MOST_SITES →
    me < s.sites → IsValid s us → made_of s me us token r ≡ Ok v → IsValid s (us ++ v ∷ [])
made_is_valid s me us token r v few here valid e = Legal.IsValid-push s us v valid
    (made_follows s me us token v few here valid (Made.made_is s me us token r v e))

-- what a site would make is refused by its ledger for want of money alone
pub refused_for_money : (s : Settings) (me : ℕ) (us : List Shadow) (r : Request) (p : Plan) (v : Shadow) → s.sites ≤ MOST_SITES →
    me < s.sites → IsValid s us
    → plan_of s us r ≡ Ok p → v ≡ operation_of me us p → number_of v.name ≤ limit_of s.limits v.name
    → refusal_of s us v ≡ cond (overdraws s us v) (Some WouldOverdraw) None
refused_for_money s me us r p v few here valid planned made within =
    let is : v ≡ shadow_of me us p = made ∙ operation_is me us p in
    let fits : IsFit s me us p = fit s me us p p.kind valid refl (Planned.planned s us r p planned) (subst (λ (u : Shadow). number_of u.name
    ≤ limit_of s.limits u.name) is within) in
    subst (λ (u : Shadow). refusal_of s us u ≡ cond (overdraws s us u) (Some WouldOverdraw) None) (sym is)
    (at (shadow_of me us p) (plan_sound s me us p few here valid fits) (fresh_name s me us (colour_in us p.kind) valid)
    (Eligible.eligible_from us (shadow_of me us p) (seen_past s me us p few valid))
    (Legal.no_wrong_target us (shadow_of me us p) (target_of p.kind) valid.unique fits.target)
    (ap (λ c. same_colour c (colour_in us p.kind)) (shows me us (colour_in us p.kind)) ∙ Legal.same_colour-refl (colour_in us p.kind)))
  where
    at : (u : Shadow) → IsSound s u → names us u.name ≡ false → is_eligible us u ≡ true → has_wrong_target us u (target_of u.kind) ≡ false →
        same_colour (shown_colour u.name) (colour_in us u.kind) ≡ true →
        refusal_of s us u ≡ cond (overdraws s us u) (Some WouldOverdraw) None
    at u sound fresh eligible target colour = ap (λ o. unless (λ why. Some (BadMessage why)) o (refusal_of_sound s us u)) sound
        ∙ (rw (fresh, eligible, target, colour) refl)
