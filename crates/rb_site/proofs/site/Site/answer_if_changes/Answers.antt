-- A full history is left as it is, and so is the state.
use Rattle.std.proofs.Common.{append-nil, ◌≡◌, ◌∙◌, [], ◌++◌, true, cond, ap, sym}
use Rattle.std.specs.Prelude.{map}
use Rattle.rb_site.specs.Events.{is_full, outcome_of, sent_by}
use Rattle.rb_site.specs.Seen.{SeenSite, state_of}
use Rattle.rb_site.specs.States.{SiteState}
use Rattle.rb_site.specs.Unchanging.{reply_if_changes}
use Rattle.rb_site.proofs.States.{next_full, replies_full, seen_as}
use Rattle.rb_site.proofs.site.Site.answer_if_changes.Goals as goal

pub returns-then-is_full-clause-ok : goal.returns-then-is_full-clause-ok
returns-then-is_full-clause-ok g c =
    let full : is_full c.args.self.now.settings (state_of c.args.self.now) ≡ true = sym c.is_full.ensures ∙ c.if-is_full.true in (
      ap (λ (z : SiteState). seen_as z.settings z.site.me (map g.E.KeepsEntry.entry c.self.inside.history.items)) c.answer_full.ensures.same
          ∙ c.self.view_is ∙ sym (next_full c.args.self.now c.args.event.now full),
      c.in_ok-answer_full.ensures.reply
          ∙ replies_full (seen_as c.self.inside.state.settings c.self.inside.state.site.me
          (map g.E.KeepsEntry.entry c.self.inside.history.items))
          c.self.inside.state c.args.event.now c.self.invariant.0
          (ap (λ (x : SeenSite). is_full x.settings (state_of x)) c.self.view_is ∙ full)
          ∙ ap (λ (x : SeenSite). reply_if_changes x.settings (state_of x) c.args.event.now) c.self.view_is,
      sym (append-nil c.args.sent.now.items) ∙ sym (ap (λ b. c.args.sent.now.items
          ++ cond b [] (sent_by (outcome_of c.args.self.now.settings (state_of c.args.self.now) c.args.event.now))) full),
    )
