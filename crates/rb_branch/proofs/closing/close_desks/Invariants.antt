use Rattle.std.proofs.Common.{◌≡◌, ◌+◌, ◌≤◌, vec_len, All}
use Rattle.std.specs.Vec.{vec_capacity}
use Rattle.rb_branch.specs.Gathered.{IsClosedReport, entries_in}
use Rattle.rb_branch.proofs.closing.close_desks.Given as goal

abbrev pub invariant-loop-k : goal.invariant-loop-k
invariant-loop-k g l = record {
  here : vec_len l.desks + l._k ≡ l.count;
  len : vec_len l.reports ≡ l._k;
  room : l.count ≤ vec_capacity l.reports;
  parts : l.all.parts ≡ l._k;
  amount : l.all.amount ≡ entries_in l.reports.items;
  reports : All (IsClosedReport g.E.Entries.settings) l.reports.items;
}
