-- The reply and the number of those held show whether the event changed the state.
use Rattle.std.proofs.Common.{◌∙◌, ap, length}
use Rattle.rb_site.specs.States.{SiteState, noting}
use Rattle.rb_site.proofs.ShownChange.{shown_by}
use Rattle.rb_site.proofs.state.State.act_seeing.Goals as goal

pub returns-clause-changed : goal.returns-clause-changed
returns-clause-changed c =
    shown_by c.args.keeps c.args.self.now c.act.new.self c.args.sent.now.items c.act.new.sent.items c.args.event.now
    (noting c.act.new.reply c.act.new.noted) c.len.result c.len-held.result c.shows_change.result c.in_ok-act.ensures.ok
    (c.len.ensures ∙ ap (λ (z : SiteState). length z.site.held) c.self-2.view_is)
    (c.len-held.ensures ∙ ap (λ (z : SiteState). length z.site.held) c.self.view_is)
    c.shows_change.ensures
