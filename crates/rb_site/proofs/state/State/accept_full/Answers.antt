-- A token message that would be taken is refused, and any other is answered.
use Rattle.std.proofs.Common.{◌≡◌, ◌∙◌, ap, subst, sym}
use Rattle.rb_token.specs.Seen.{SeenToken}
use Rattle.rb_token.specs.Token.{is_stale}
use Rattle.rb_site.specs.declared.event.Event.TheVariants.{Receive}
use Rattle.rb_site.specs.declared.message.Message.TheVariants.{Token as TokenOnItsWay}
use Rattle.rb_site.specs.States.{SiteState}
use Rattle.rb_site.specs.Unchanging.{reply_at_full}
use Rattle.rb_site.proofs.Handlers.{state_as}
use Rattle.rb_site.proofs.FullHistory.{message_refused, message_stale, message_taken, refusal_seen, stale_known, taken_fresh}
use Rattle.rb_site.proofs.state.State.accept_full.Goals as goal

pub returns-in-Ok-Taken : goal.returns-in-Ok-Taken
returns-in-Ok-Taken c =
    let old : SiteState = state_as c.self.inside.recorded.settings c.self.inside.token.me c.self.inside.recorded.ops
    c.self.inside.inbox.held c.self.inside.token.token in
    let P : SiteState → Type 0 = λ z. c.give.new.place ≡ reply_at_full z.settings z.site (Receive (TokenOnItsWay c.args.message.now)) in
    subst P c.self.view_is
    (message_taken old.settings old.site c.args.message.now c.give.new.place
    (refusal_seen old.settings c.self.inside.token c.copy-token.result c.args.message.now _ c.copy-token.ensures
    c.self.invariant.limits c.in-Ok-Taken.ensures.allowed)
    (ap (λ (seen : SeenToken). is_stale seen.token c.args.message.now) (sym c.copy-token.ensures)
    ∙ taken_fresh _ _ (λ e.
    (sym c.in-Ok-Taken.field-0-is ∙ (c.in-Ok-Taken.ensures.stale e).0, (c.in-Ok-Taken.ensures.stale e).1)))
    c.give.ensures.0)

pub returns-in-Ok-Stale : goal.returns-in-Ok-Stale
returns-in-Ok-Stale c =
    let old : SiteState = state_as c.self.inside.recorded.settings c.self.inside.token.me c.self.inside.recorded.ops
    c.self.inside.inbox.held c.self.inside.token.token in
    let P : SiteState → Type 0 = λ z. c.give-in-Ok-Stale.new.place
    ≡ reply_at_full z.settings z.site (Receive (TokenOnItsWay c.args.message.now)) in
    subst P c.self.view_is
    (message_stale old.settings old.site c.args.message.now c.give-in-Ok-Stale.new.place
    (refusal_seen old.settings c.self.inside.token c.copy-token.result c.args.message.now _ c.copy-token.ensures
    c.self.invariant.limits c.in-Ok-Stale.ensures.allowed)
    (ap (λ (seen : SeenToken). is_stale seen.token c.args.message.now) (sym c.copy-token.ensures)
    ∙ stale_known _ _ (λ e.
    (sym c.in-Ok-Stale.field-0-is ∙ (c.in-Ok-Stale.ensures.taken e).0, (c.in-Ok-Stale.ensures.taken e).1)))
    c.give-in-Ok-Stale.ensures.0)

pub returns-in-Err : goal.returns-in-Err
returns-in-Err c =
    let old : SiteState = state_as c.self.inside.recorded.settings c.self.inside.token.me c.self.inside.recorded.ops
    c.self.inside.inbox.held c.self.inside.token.token in
    let P : SiteState → Type 0 = λ z. c.give-in-Err.new.place
    ≡ reply_at_full z.settings z.site (Receive (TokenOnItsWay c.args.message.now)) in
    subst P c.self.view_is
    (message_refused old.settings old.site c.args.message.now c.in-Err.why c.give-in-Err.new.place
    (refusal_seen old.settings c.self.inside.token c.copy-token.result c.args.message.now _ c.copy-token.ensures
    c.self.invariant.limits c.in-Err.ensures.reason)
    c.give-in-Err.ensures.0)
