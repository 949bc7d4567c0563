-- One entry more was taken.
use Rattle.std.proofs.Common.{◌∙◌, ◌++◌, ◌∷◌, [], ap, sym, subst, take}
use Rattle.std.proofs.lemmas.List.{take_more}
use Rattle.rb_auditor.specs.Audits.{HasMore}
use Rattle.rb_auditor.proofs.Read
use Rattle.rb_auditor.proofs.whole.read.Goals as goal

pub loop-entry-init : goal.loop-entry-init
loop-entry-init c = Read.none_more c.args.auditor.now c.args.site c.requires

pub loop-entry-preserved : goal.loop-entry-preserved
loop-entry-preserved c =
    subst (HasMore c.args.auditor.now c.take.new.self c.args.site)
    (ap (λ x. take c.loop-entry.entry-index c.args.history.now ++ x ∷ []) c.entry-item.is
    ∙ sym (take_more c.args.history.now c.loop-entry.entry-index c.entry-item.result c.loop-entry-test.true))
    (Read.more_next c.args.auditor.now c.loop-entry.auditor c.take.new.self c.args.site (take c.loop-entry.entry-index c.args.history.now)
    c.entry-item.result c.loop-entry.invariant c.in_ok-take.ensures.ok)
