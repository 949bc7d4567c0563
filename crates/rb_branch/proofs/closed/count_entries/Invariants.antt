use Rattle.std.proofs.Common.{◌≡◌, ◌*◌, ◌^◌, ◌≤◌, take}
use Rattle.rb_branch.specs.Gathered.{entries_in}
use Rattle.rb_branch.proofs.closed.count_entries.Given as goal

abbrev pub invariant-loop-report : goal.invariant-loop-report
invariant-loop-report l = (l.count ≡ entries_in (take l.report-index l.reports)) × (l.count ≤ l.report-index * 2 ^ 32)
