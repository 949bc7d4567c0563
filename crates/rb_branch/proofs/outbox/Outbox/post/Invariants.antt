use Rattle.std.proofs.Common.{◌≡◌, ◌≤◌, ◌*◌, ◌++◌, drop, length}
use Rattle.std.specs.Prelude.{map}
use Rattle.std.specs.List.{flat_map}
use Rattle.rb_money.specs.declared.limits.TheConstants.{MOST_SITES}
use Rattle.rb_branch.specs.Postings.{addressees, for_each, given}
use Rattle.rb_branch.proofs.outbox.Outbox.post.Given as goal

abbrev pub invariant-loop-message : goal.invariant-loop-message
invariant-loop-message g l = record {
  so_far : map given l.posting
      ++ flat_map (λ m. for_each m (addressees l.home l.sites m)) (drop l.message-index l.posted)
      ≡ flat_map (λ m. for_each m (addressees l.home l.sites m)) l.posted;
  room : length l.posting ≤ l.message-index * MOST_SITES;
}
