-- A held shadow that would go is refused, and any other is answered.
use Rattle.std.proofs.Common.{◌≡◌, ◌∙◌, None, Some, ap, subst, sym}
use Rattle.std.specs.Option.{option_copied}
use Rattle.rb_ledger.specs.Checks.{refusal_of}
use Rattle.rb_money.specs.declared.refusal.Refusal.TheVariants.{NotReady}
use Rattle.rb_shadow.specs.Operations.{is_eligible}
use Rattle.rb_site.specs.declared.event.Event.TheVariants.{Apply}
use Rattle.rb_site.specs.States.{SiteState}
use Rattle.rb_site.specs.Unchanging.{reply_at_full}
use Rattle.rb_site.proofs.Handlers.{held_sound, state_as}
use Rattle.rb_site.proofs.FullHistory.{apply_checked, apply_none, apply_waits, full_dropped}
use Rattle.rb_site.proofs.state.State.apply_full.Goals as goal

pub returns-in_default : goal.returns-in_default
returns-in_default c =
    let old : SiteState = state_as c.self.inside.recorded.settings c.self.inside.token.me c.self.inside.recorded.ops
    c.self.inside.inbox.held c.self.inside.token.token in
    let P : SiteState → Type 0 = λ z. c.give.new.place ≡ reply_at_full z.settings z.site (Apply c.args.name.now) in
    subst P c.self.view_is
    (apply_none old.settings old.site c.args.name.now c.give.new.place
    (sym c.held.ensures ∙ ap option_copied c.in_default.is) c.give.ensures.0)

pub returns-then-not-is_eligible : goal.returns-then-not-is_eligible
returns-then-not-is_eligible c =
    let old : SiteState = state_as c.self.inside.recorded.settings c.self.inside.token.me c.self.inside.recorded.ops
    c.self.inside.inbox.held c.self.inside.token.token in
    let P : SiteState → Type 0 = λ z. c.give-then-not-is_eligible.new.place ≡ reply_at_full z.settings z.site (Apply c.args.name.now) in
    subst P c.self.view_is
    (apply_waits old.settings old.site c.args.name.now c.in-Some.held.now c.give-then-not-is_eligible.new.place
    (sym c.held.ensures ∙ ap option_copied c.in-Some.is)
    (ap (λ us. is_eligible us c.in-Some.held.now) (sym c.ledger-ledger.ensures.entries) ∙ sym c.is_eligible.ensures
    ∙ c.if-not-is_eligible.true)
    c.give-then-not-is_eligible.ensures.0)

pub returns-in-Ok : goal.returns-in-Ok
returns-in-Ok c =
    let old : SiteState = state_as c.self.inside.recorded.settings c.self.inside.token.me c.self.inside.recorded.ops
    c.self.inside.inbox.held c.self.inside.token.token in
    let P : SiteState → Type 0 = λ z. c.give-in-Ok.new.place ≡ reply_at_full z.settings z.site (Apply c.args.name.now) in
    subst P c.self.view_is
    (apply_checked old.settings old.site c.args.name.now c.in-Some.held.now None c.give-in-Ok.new.place
    (sym c.held.ensures ∙ ap option_copied c.in-Some.is)
    (ap (λ us. is_eligible us c.in-Some.held.now) (sym c.ledger-ledger.ensures.entries) ∙ sym c.is_eligible.ensures
    ∙ c.if-not-is_eligible.false)
    (held_sound old.settings old.site.held c.args.name.now c.in-Some.held.now c.self.invariant.sound
    (sym c.held.ensures ∙ ap option_copied c.in-Some.is))
    (ap (λ s. refusal_of s c.self.inside.recorded.ops c.in-Some.held.now) (sym c.ledger-ledger.ensures.settings)
    ∙ ap (λ us. refusal_of c.ledger-ledger.result.now.settings us c.in-Some.held.now) (sym c.ledger-ledger.ensures.entries)
    ∙ c.in-Ok.ensures.first)
    c.give-in-Ok.ensures.0)

pub returns-in-NotReady : goal.returns-in-NotReady
returns-in-NotReady c =
    let old : SiteState = state_as c.self.inside.recorded.settings c.self.inside.token.me c.self.inside.recorded.ops
    c.self.inside.inbox.held c.self.inside.token.token in
    let P : SiteState → Type 0 = λ z. c.give-in-NotReady.new.place ≡ reply_at_full z.settings z.site (Apply c.args.name.now) in
    subst P c.self.view_is
    (apply_checked old.settings old.site c.args.name.now c.in-Some.held.now (Some NotReady) c.give-in-NotReady.new.place
    (sym c.held.ensures ∙ ap option_copied c.in-Some.is)
    (ap (λ us. is_eligible us c.in-Some.held.now) (sym c.ledger-ledger.ensures.entries) ∙ sym c.is_eligible.ensures
    ∙ c.if-not-is_eligible.false)
    (held_sound old.settings old.site.held c.args.name.now c.in-Some.held.now c.self.invariant.sound
    (sym c.held.ensures ∙ ap option_copied c.in-Some.is))
    (ap (λ s. refusal_of s c.self.inside.recorded.ops c.in-Some.held.now) (sym c.ledger-ledger.ensures.settings)
    ∙ ap (λ us. refusal_of c.ledger-ledger.result.now.settings us c.in-Some.held.now) (sym c.ledger-ledger.ensures.entries)
    ∙ c.in-Err.ensures.first ∙ ap Some c.in-NotReady.is)
    c.give-in-NotReady.ensures.0)

pub returns-in_default-why : goal.returns-in_default-why
returns-in_default-why c =
    let old : SiteState = state_as c.self.inside.recorded.settings c.self.inside.token.me c.self.inside.recorded.ops
    c.self.inside.inbox.held c.self.inside.token.token in
    let P : SiteState → Type 0 = λ z. c.give-in_default-why.new.place ≡ reply_at_full z.settings z.site (Apply c.args.name.now) in
    subst P c.self.view_is
    (apply_checked old.settings old.site c.args.name.now c.in-Some.held.now (Some c.in-Err.why) c.give-in_default-why.new.place
    (sym c.held.ensures ∙ ap option_copied c.in-Some.is)
    (ap (λ us. is_eligible us c.in-Some.held.now) (sym c.ledger-ledger.ensures.entries) ∙ sym c.is_eligible.ensures
    ∙ c.if-not-is_eligible.false)
    (held_sound old.settings old.site.held c.args.name.now c.in-Some.held.now c.self.invariant.sound
    (sym c.held.ensures ∙ ap option_copied c.in-Some.is))
    (ap (λ s. refusal_of s c.self.inside.recorded.ops c.in-Some.held.now) (sym c.ledger-ledger.ensures.settings)
    ∙ ap (λ us. refusal_of c.ledger-ledger.result.now.settings us c.in-Some.held.now) (sym c.ledger-ledger.ensures.entries)
    ∙ c.in-Err.ensures.first)
    (c.give-in_default-why.ensures.0
    ∙ full_dropped old.settings old.site.ops c.in-Some.held.now c.in-Err.why c.in_default-why.not-NotReady))
