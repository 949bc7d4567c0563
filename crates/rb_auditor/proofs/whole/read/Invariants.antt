-- The entries so far were taken.
use Rattle.std.proofs.Common.{take}
use Rattle.rb_auditor.specs.Audits.{HasMore}
use Rattle.rb_auditor.proofs.whole.read.Given as goal

abbrev pub invariant-loop-entry : goal.invariant-loop-entry
invariant-loop-entry l = HasMore l.initial.auditor l.auditor l.site (take l.entry-index l.history)
