use Rattle.std.proofs.Common.{◌≡◌, ◌≤◌, ◌+◌, ◌++◌, length}
use Rattle.std.specs.Prelude.{map}
use Rattle.rb_branch.specs.Postings.{for_each, given, others}
use Rattle.rb_branch.proofs.outbox.Outbox.send_others.Given as goal

abbrev pub invariant-loop-site : goal.invariant-loop-site
invariant-loop-site g l = record {
  so_far : map given l.posting ≡ map given l.fn.posting ++ for_each l.message (others l.home l.site);
  room : length l.posting ≤ length l.fn.posting + l.site;
}
