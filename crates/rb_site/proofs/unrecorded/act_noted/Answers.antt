-- The entry is of the event and its reply.
use Rattle.std.proofs.Common.{◌∙◌, ap, subst}
use Rattle.rb_site.specs.Events.{outcome_of}
use Rattle.rb_site.specs.Seen.{entry}
use Rattle.rb_site.specs.States.{Follows, noting}
use Rattle.rb_site.proofs.States.{noted_as}
use Rattle.rb_site.proofs.unrecorded.act_noted.Goals as goal

pub returns-clause-ok : goal.returns-clause-ok
returns-clause-ok g c = (
  c.act_seeing.new.noted,
  subst (λ k. Follows k c.args.state.now c.act_seeing.new.self c.args.sent.now.items c.act_seeing.new.sent.items
      (outcome_of c.args.state.now.settings c.args.state.now.site c.args.event.now) (noting c.act_seeing.new.reply c.act_seeing.new.noted))
      c.KEEPS.ensures c.in_ok-changed.ensures.ok,
)

pub returns-clause-entry : goal.returns-clause-entry
returns-clause-entry g c = c.note.ensures ∙ ap (λ e. entry e c.act_seeing.new.reply) c.in_ok-kept.ensures

pub note-requires : goal.note-requires
note-requires g c =
    noted_as c.KEEPS.result g.E.KeepsEntry.KEEPS (noting c.act_seeing.new.reply c.act_seeing.new.noted) _ c.in_ok-changed.ensures.ok.1
    c.KEEPS.ensures
