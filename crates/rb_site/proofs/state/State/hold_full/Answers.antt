-- A shadow that would be held is refused, and any other is answered.
use Rattle.std.proofs.Common.{◌≡◌, ◌∙◌, Ok, Err, ap, refl, subst}
use Rattle.rb_site.specs.States.{SiteState}
use Rattle.rb_site.proofs.Handlers.{state_as}
use Rattle.rb_site.proofs.FullHistory.{new_already, new_refused, new_welcome, reply_new}
use Rattle.rb_site.proofs.state.State.hold_full.Goals as goal

pub returns-in-Ok-Held : goal.returns-in-Ok-Held
returns-in-Ok-Held c =
    let clocked = rw (c.ledger.ensures.settings, c.ledger.ensures.entries) at c.clock.ensures in
    let old : SiteState = state_as c.self.inside.recorded.settings c.self.inside.token.me c.self.inside.recorded.ops
    c.self.inside.inbox.held c.self.inside.token.token in
    let P : SiteState → Type 0 = λ z. c.give.new.place ≡ reply_new z.settings z.site c.args.shadow.now in
    subst P c.self.view_is
    (new_welcome old.settings old.site c.self.inside.inbox c.clock.result.now c.args.shadow.now c.give.new.place clocked
    c.self.invariant.limit refl (c.check.ensures.welcome (c.in-Ok-Held.is ∙ ap Ok c.in-Ok-Held.field-0-is)) c.give.ensures.0)

pub returns-in-Ok-Already : goal.returns-in-Ok-Already
returns-in-Ok-Already c =
    let old : SiteState = state_as c.self.inside.recorded.settings c.self.inside.token.me c.self.inside.recorded.ops
    c.self.inside.inbox.held c.self.inside.token.token in
    let P : SiteState → Type 0 = λ z. c.give-in-Ok-Already.new.place ≡ reply_new z.settings z.site c.args.shadow.now in
    subst P c.self.view_is
    (new_already old.settings old.site c.args.shadow.now c.give-in-Ok-Already.new.place
    (c.check.ensures.already (c.in-Ok-Already.is ∙ ap Ok c.in-Ok-Already.field-0-is)) c.give-in-Ok-Already.ensures.0)

pub returns-in-Err : goal.returns-in-Err
returns-in-Err c =
    let clocked = rw (c.ledger.ensures.settings, c.ledger.ensures.entries) at c.clock.ensures in
    let old : SiteState = state_as c.self.inside.recorded.settings c.self.inside.token.me c.self.inside.recorded.ops
    c.self.inside.inbox.held c.self.inside.token.token in
    let P : SiteState → Type 0 = λ z. c.give-in-Err.new.place ≡ reply_new z.settings z.site c.args.shadow.now in
    subst P c.self.view_is
    (new_refused old.settings old.site c.self.inside.inbox c.clock.result.now c.args.shadow.now c.in-Err.why c.give-in-Err.new.place
    clocked c.self.invariant.limit refl c.in-Err.ensures.refusals (λ e. c.check.ensures.conflict (c.in-Err.is ∙ ap Err e))
    (λ e. c.check.ensures.full (c.in-Err.is ∙ ap Err e)) c.give-in-Err.ensures.0)
