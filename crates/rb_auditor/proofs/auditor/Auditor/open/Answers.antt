-- Before any entry.
use Rattle.std.proofs.Common.{◌∙◌}
use Rattle.rb_auditor.proofs.Kept
use Rattle.rb_auditor.proofs.auditor.Auditor.open.Goals as goal

pub invariant_of-result : goal.invariant_of-result
invariant_of-result c = Kept.none_read c.args.config c.in_ok-sites.sites.items c.in_ok-notes.notes.items c.in_ok-store.store.messages.items
    c.in_ok-sites.ensures (c.in_ok-notes.ensures.0 ∙ c.sites-2.ensures.same) c.in_ok-notes.ensures.1

pub returns-clause-none : goal.returns-clause-none
returns-clause-none c = Kept.no_histories c.in_ok-notes.notes.items c.args.config.sites (c.in_ok-notes.ensures.0
    ∙ c.sites-2.ensures.same) c.in_ok-notes.ensures.1
