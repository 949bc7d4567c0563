-- So far none has entries.
use Rattle.std.proofs.Common.{◌∙◌, ◌+◌, ◌≤◌, ap, sym, subst}
use Rattle.rb_auditor.specs.Kept.{HaveNoEntries}
use Rattle.rb_auditor.proofs.Kept
use Rattle.rb_auditor.proofs.notes.no_notes.Goals as goal

pub loop-site-preserved : goal.loop-site-preserved
loop-site-preserved c = (
  subst HaveNoEntries (sym c.push_reserved.ensures.items) (Kept.no_entries_more c.loop-site.notes.items c.in_ok-none.none
      c.loop-site.invariant.0 c.in_ok-none.ensures.entries c.in_ok-none.ensures.steps),
  c.push_reserved.ensures.len ∙ ap (λ n. n + 1) c.loop-site.invariant.1,
  subst (λ n. c.args.sites ≤ n) (sym c.push_reserved.ensures.capacity) c.loop-site.invariant.2,
)
