-- A request is made or refused as the model says.
use Rattle.std.proofs.Common.{◌≡◌, ◌∙◌, ◌<◌, [], ◌∷◌, ◌++◌, Ok, Err, ℕ, true, ap, arith, refl, subst, sym}
use Rattle.rb_money.specs.Settings.{Settings}
use Rattle.rb_ledger.specs.Valid.{IsValid}
use Rattle.rb_scratch.specs.Requests.{made_of}
use Rattle.rb_site.specs.declared.event.Event.TheVariants.{Submit}
use Rattle.rb_site.specs.declared.message.Message.TheVariants.{Shadow as ShadowMessage}
use Rattle.rb_site.specs.declared.reply.Reply.TheVariants.{Made}
use Rattle.rb_site.specs.Events.{outcome_of}
use Rattle.rb_site.specs.States.{Follows, Says, SeenLedger, SiteState, plain}
use Rattle.rb_site.proofs.Errors.{on_err}
use Rattle.rb_site.proofs.Handlers.{made_here, makes_request, refuses_request, state_as, tied_as}
use Rattle.rb_site.proofs.state.State.submit.Goals as goal

-- the token's site is one of the ledger's
me_within : (me here sites now : ℕ) → here ≡ me → now ≡ sites → me < sites → here < now
me_within me here sites now at same within = omega arith

pub generate-requires : goal.generate-requires
generate-requires c = me_within c.self.inside.token.me c.view.result.me c.self.inside.recorded.settings.sites
    c.ledger.result.now.settings.sites c.view.ensures.me (ap (λ (s : Settings). s.sites) c.ledger.ensures.settings) c.self.invariant.me

pub returns-in-Err-clause-ok : goal.returns-in-Err-clause-ok
returns-in-Err-clause-ok c =
    let old : SiteState = state_as c.self.inside.recorded.settings c.self.inside.token.me c.self.inside.recorded.ops
    c.self.inside.inbox.held c.self.inside.token.token in
    let P : SiteState → Type 0 = λ z. made_of z.settings z.site.me z.site.ops z.site.token c.args.request.now ≡ Err c.in-Err.why in
    refuses_request c.args.self.now c.args.request.now c.in-Err.why c.args.sent.now.items (plain c.give.new.place)
    (subst P c.self.view_is (made_here old c.ledger.result.now.settings c.view.result.me c.ledger.result.now.entries c.args.request.now
    (Err c.in-Err.why) c.ledger.ensures.settings c.view.ensures.me c.ledger.ensures.entries
    (c.in-Err.ensures.made c.self.inside.token.token c.view.ensures.shows)))
    c.give.ensures

pub returns-in_err-reserve-clause-err : goal.returns-in_err-reserve-clause-err
returns-in_err-reserve-clause-err c = on_err c.from_residual.result _ (refl, c.in_err-reserve.ensures.items)

pub apply_made-requires : goal.apply_made-requires
apply_made-requires c =
    subst (λ us. IsValid c.self.inside.recorded.settings (us ++ c.in-Ok.shadow ∷ [])) c.ledger.ensures.entries
    (subst (λ s. IsValid s (c.ledger.result.now.entries ++ c.in-Ok.shadow ∷ [])) c.ledger.ensures.settings c.in-Ok.ensures.valid)

pub invariant_of-self : goal.invariant_of-self
invariant_of-self c = tied_as c.self.inside.recorded.settings c.apply_made.new.self.settings c.self.inside.inbox c.self.inside.token
    (ap (λ (b : SeenLedger). b.settings) c.in_err-apply_made.ensures.err) c.self.invariant

pub returns-in_err-apply_made-clause-err : goal.returns-in_err-apply_made-clause-err
returns-in_err-apply_made-clause-err c = on_err c.from_residual-in_err-apply_made.result _ (
  ap (λ (b : SeenLedger). state_as b.settings c.self.inside.token.me b.ops c.self.inside.inbox.held c.self.inside.token.token)
      c.in_err-apply_made.ensures.err ∙ c.self.view_is,
  c.in_ok-reserve.ensures.items,
)

pub push_reserved-requires : goal.push_reserved-requires
push_reserved-requires c = omega (arith, c.in_ok-reserve.ensures.ok, c.in_ok-reserve.ensures.len)

pub invariant_of-self-2 : goal.invariant_of-self-2
invariant_of-self-2 c = tied_as c.self.inside.recorded.settings c.apply_made.new.self.settings c.self.inside.inbox c.self.inside.token
    (ap (λ (b : SeenLedger). b.settings) c.in_ok-apply_made.ensures.ok) c.self.invariant

pub returns-clause-ok : goal.returns-clause-ok
returns-clause-ok c =
    let P : SiteState → Type 0 = λ z. Follows true z
    (state_as c.apply_made.new.self.settings c.self.inside.token.me c.apply_made.new.self.ops
    c.self.inside.inbox.held c.self.inside.token.token) c.args.sent.now.items c.push_reserved.new.self.items
    (outcome_of z.settings z.site (Submit c.args.request.now)) (plain c.give-2.new.place) in
    let old : SiteState = state_as c.self.inside.recorded.settings c.self.inside.token.me c.self.inside.recorded.ops
    c.self.inside.inbox.held c.self.inside.token.token in
    let Q : SeenLedger → Type 0 = λ b. Follows true old (state_as b.settings c.self.inside.token.me b.ops c.self.inside.inbox.held
    c.self.inside.token.token) c.args.sent.now.items c.push_reserved.new.self.items
    (outcome_of old.settings old.site (Submit c.args.request.now)) (plain c.give-2.new.place) in
    subst P c.self.view_is
    (subst Q (sym c.in_ok-apply_made.ensures.ok)
    (makes_request c.self.inside.recorded.settings c.self.inside.token.me c.self.inside.recorded.ops c.self.inside.inbox.held
    c.self.inside.token.token c.args.request.now c.in-Ok.shadow c.args.sent.now.items c.push_reserved.new.self.items
    (plain c.give-2.new.place)
    (made_here old c.ledger.result.now.settings c.view.result.me c.ledger.result.now.entries c.args.request.now
    (Ok c.in-Ok.shadow) c.ledger.ensures.settings c.view.ensures.me c.ledger.ensures.entries
    (c.in-Ok.ensures.made c.self.inside.token.token c.view.ensures.shows))
    (subst (λ l. Says true (plain c.give-2.new.place) (Made c.in-Ok.shadow.name l)) c.label-kind.ensures c.give-2.ensures)
    (c.push_reserved.ensures.items ∙ ap (λ ms. ms ++ ShadowMessage c.in-Ok.shadow ∷ []) c.in_ok-reserve.ensures.items)))
