use Rattle.std.proofs.Common.{◌≡◌, ◌<◌, ℕ, Some}
use Rattle.std.specs.Prelude.{slice_get}
use Rattle.rb_site.specs.declared.report.SiteReport.{SiteReport}
use Rattle.rb_branch.specs.Gathered.{IsGathered}
use Rattle.rb_branch.proofs.closed.look_at_all.Given as goal

abbrev pub invariant-loop-k : goal.invariant-loop-k
invariant-loop-k l = (j : ℕ) → j < l.k → (r : SiteReport) → slice_get l.reports j ≡ Some r
    → (r.me ≡ j) × IsGathered j r.history.items l.seats
