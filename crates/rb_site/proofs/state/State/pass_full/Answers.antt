-- A pass that would be made is refused, and any other has its own refusal.
use Rattle.std.proofs.Common.{◌≡◌, subst}
use Rattle.rb_site.specs.declared.event.Event.TheVariants.{Pass}
use Rattle.rb_site.specs.States.{SiteState}
use Rattle.rb_site.specs.Unchanging.{reply_at_full}
use Rattle.rb_site.proofs.Handlers.{state_as}
use Rattle.rb_site.proofs.FullHistory.{pass_made, pass_refused, pass_seen}
use Rattle.rb_site.proofs.state.State.pass_full.Goals as goal

pub returns-in-Ok : goal.returns-in-Ok
returns-in-Ok c =
    let old : SiteState = state_as c.self.inside.recorded.settings c.self.inside.token.me c.self.inside.recorded.ops
    c.self.inside.inbox.held c.self.inside.token.token in
    let P : SiteState → Type 0 = λ z. c.give.new.place ≡ reply_at_full z.settings z.site (Pass c.args.to) in
    subst P c.self.view_is
    (pass_made old.settings old.site c.args.to c.give.new.place
    (pass_seen old.settings c.self.inside.token c.copy-token.result c.args.to _ c.copy-token.ensures c.self.invariant.sites
    c.self.invariant.limits c.in-Ok.ensures.allowed)
    c.give.ensures.0)

pub returns-in-Err : goal.returns-in-Err
returns-in-Err c =
    let old : SiteState = state_as c.self.inside.recorded.settings c.self.inside.token.me c.self.inside.recorded.ops
    c.self.inside.inbox.held c.self.inside.token.token in
    let P : SiteState → Type 0 = λ z. c.give-in-Err.new.place ≡ reply_at_full z.settings z.site (Pass c.args.to) in
    subst P c.self.view_is
    (pass_refused old.settings old.site c.args.to c.in-Err.why c.give-in-Err.new.place
    (pass_seen old.settings c.self.inside.token c.copy-token.result c.args.to _ c.copy-token.ensures c.self.invariant.sites
    c.self.invariant.limits c.in-Err.ensures.reason)
    c.give-in-Err.ensures.0)
