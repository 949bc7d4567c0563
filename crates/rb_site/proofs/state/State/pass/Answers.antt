-- The token goes as the model says.
use Rattle.std.proofs.Common.{◌≡◌, ◌∙◌, ◌++◌, ◌∷◌, [], Some, true, sym, ap, arith, subst, refl}
use Rattle.rb_shadow.specs.Operations.{clock_of}
use Rattle.rb_shadow.specs.declared.deps.Deps.{Deps}
use Rattle.rb_token.specs.Seen.{SeenToken}
use Rattle.rb_token.specs.Token.{pass_message, passed_token, refusal_of_pass}
use Rattle.rb_site.specs.declared.event.Event.TheVariants.{Pass}
use Rattle.rb_site.specs.declared.message.Message.TheVariants.{Token as TokenOnItsWay}
use Rattle.rb_site.specs.Events.{outcome_of}
use Rattle.rb_site.specs.States.{Follows, SiteState, plain}
use Rattle.rb_site.proofs.Errors.{on_err}
use Rattle.rb_site.proofs.Handlers.{passes, refuses_pass, state_as, tied_passed}
use Rattle.rb_site.proofs.state.State.pass.Goals as goal

pub returns-clause-ok : goal.returns-clause-ok
unfolding clock_of
returns-clause-ok c =
    let P : SiteState → Type 0 = λ z. Follows true z (state_as c.self.inside.recorded.settings c.pass.new.self.me c.self.inside.recorded.ops
    c.self.inside.inbox.held c.pass.new.self.token) c.args.sent.now.items c.push_reserved.new.self.items
    (outcome_of z.settings z.site (Pass c.args.to)) (plain c.give-2.new.place) in
    subst P c.self.view_is
    (let old : SiteState = state_as c.self.inside.recorded.settings c.self.inside.token.me c.self.inside.recorded.ops
    c.self.inside.inbox.held c.self.inside.token.token in
    let Q : SeenToken → Type 0 = λ seen. Follows true old (state_as c.self.inside.recorded.settings seen.me c.self.inside.recorded.ops
    c.self.inside.inbox.held seen.token) c.args.sent.now.items c.push_reserved.new.self.items
    (outcome_of old.settings old.site (Pass c.args.to)) (plain c.give-2.new.place) in
    subst Q (sym (c.in-Ok.ensures.passed ∙ ap (λ (seen : SeenToken). record seen { token = passed_token seen.token c.in-Ok.message })
    c.copy-passed.ensures))
    (passes c.self.inside.recorded.settings c.self.inside.token.me c.self.inside.recorded.ops c.self.inside.inbox.held
    c.self.inside.token.token _ c.args.to c.clock.result.now.red c.in-Ok.message c.args.sent.now.items c.push_reserved.new.self.items
    (plain c.give-2.new.place)
    (ap (λ n. refusal_of_pass n c.self.inside.recorded.settings.limits c.self.inside.token.me c.self.inside.token.token c.args.to)
    (sym c.self.invariant.sites)
    ∙ ap (λ l. refusal_of_pass c.self.inside.token.sites l c.self.inside.token.me c.self.inside.token.token c.args.to)
    (sym c.self.invariant.limits)
    ∙ ap (λ (seen : SeenToken). refusal_of_pass seen.sites seen.limits seen.me seen.token c.args.to) (sym c.copy-passed.ensures)
    ∙ c.in-Ok.ensures.allowed)
    (ap (λ (d : Deps). d.red) c.clock.ensures.clock ∙ ap (λ us. (clock_of us).red) c.ledger.ensures.entries)
    (c.in-Ok.ensures.sent ∙ ap (λ (seen : SeenToken). pass_message seen.token c.args.to c.clock.result.now.red) c.copy-passed.ensures)
    refl c.give-2.ensures
    (c.push_reserved.ensures.items ∙ ap (λ ms. ms ++ TokenOnItsWay c.in-Ok.message ∷ []) c.in_ok-reserve.ensures.items)))

pub returns-in-Err-clause-ok : goal.returns-in-Err-clause-ok
returns-in-Err-clause-ok c =
    let P : SiteState → Type 0 = λ z. refusal_of_pass z.settings.sites z.settings.limits z.site.me z.site.token c.args.to
    ≡ Some c.in-Err.why in
    refuses_pass c.args.self.now c.args.to c.in-Err.why c.args.sent.now.items (plain c.give.new.place)
    (subst P c.self.view_is
    (ap (λ n. refusal_of_pass n c.self.inside.recorded.settings.limits c.self.inside.token.me c.self.inside.token.token c.args.to)
    (sym c.self.invariant.sites)
    ∙ ap (λ l. refusal_of_pass c.self.inside.token.sites l c.self.inside.token.me c.self.inside.token.token c.args.to)
    (sym c.self.invariant.limits)
    ∙ ap (λ (seen : SeenToken). refusal_of_pass seen.sites seen.limits seen.me seen.token c.args.to) (sym c.copy-passed.ensures)
    ∙ c.in-Err.ensures.reason))
    c.give.ensures

pub returns-in_err-reserve-clause-err : goal.returns-in_err-reserve-clause-err
returns-in_err-reserve-clause-err c = on_err c.from_residual.result _ (refl, c.in_err-reserve.ensures.items)

pub push_reserved-requires : goal.push_reserved-requires
push_reserved-requires c = omega (arith, c.in_ok-reserve.ensures.ok, c.in_ok-reserve.ensures.len)

pub invariant_of-self : goal.invariant_of-self
invariant_of-self c = tied_passed c.self.inside.recorded.settings c.self.inside.inbox c.self.inside.token c.pass.new.self
    (passed_token c.self.inside.token.token c.in-Ok.message)
    (c.in-Ok.ensures.passed ∙ ap (λ (seen : SeenToken). record seen { token = passed_token seen.token c.in-Ok.message })
    c.copy-passed.ensures) c.self.invariant
