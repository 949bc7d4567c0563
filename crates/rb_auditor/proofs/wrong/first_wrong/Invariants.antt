-- The sites below record all their entries.
use Rattle.rb_auditor.proofs.Judged.{WholeBelow}
use Rattle.rb_auditor.proofs.wrong.first_wrong.Given as goal

abbrev pub invariant-loop-site : goal.invariant-loop-site
invariant-loop-site l = WholeBelow l.notes l.site
