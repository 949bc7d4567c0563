-- So far those for the sites below are there.
use Rattle.std.proofs.Common.{◌≡◌, ◌≤◌, vec_len, vec_capacity}
use Rattle.rb_auditor.specs.Kept.{HaveNoEntries}
use Rattle.rb_auditor.proofs.notes.no_notes.Given as goal

abbrev pub invariant-loop-site : goal.invariant-loop-site
invariant-loop-site l = HaveNoEntries l.notes.items × (vec_len l.notes ≡ l._site) × (l.sites ≤ vec_capacity l.notes)
