-- The histories below were read.
use Rattle.std.proofs.Common.{◌≡◌}
use Rattle.rb_auditor.specs.Findings.{lists_of}
use Rattle.rb_auditor.proofs.Read.{filled}
use Rattle.rb_auditor.proofs.whole.read_all.Given as goal

abbrev pub invariant-loop-site : goal.invariant-loop-site
invariant-loop-site l = (l.auditor.settings ≡ l.config) × (l.auditor.histories ≡ filled (lists_of l.histories) l.site)
