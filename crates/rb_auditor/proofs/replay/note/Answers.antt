-- An entry that the site doesn't record is wrong.
use Rattle.std.proofs.Common.{◌∙◌, sym}
use Rattle.rb_auditor.proofs.Replaying
use Rattle.rb_auditor.proofs.replay.note.Goals as goal

pub returns-then-is_full-clause-noted : goal.returns-then-is_full-clause-noted
returns-then-is_full-clause-noted c =
    Replaying.full_is_wrong c.args.site.now c.args.entry.now c.requires (sym c.is_full.ensures ∙ c.if-is_full.true)

pub returns-clause-noted : goal.returns-clause-noted
returns-clause-noted c = Replaying.noted_or_not c.same.result c.args.entry.now c.args.messages.now.items c.requires
    (sym c.is_full.ensures ∙ c.if-is_full.false) c.in_ok-answer.ensures.ok.0 c.in_ok-answer.ensures.ok.1 c.same.ensures
    c.in_ok-answer.ensures.ok.2
