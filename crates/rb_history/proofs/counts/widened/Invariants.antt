use Rattle.rb_history.proofs.Words.{◌≡◌, ◌-◌, length, take, drop, replicate, MOST_SITES}
use Rattle.rb_history.proofs.counts.widened.Given as goal

abbrev pub invariant-loop-site : goal.invariant-loop-site
invariant-loop-site l = record {
  sites : length l.counts ≡ MOST_SITES;
  same : take l.site l.counts ≡ take l.site l.first;
  none : drop l.site l.counts ≡ replicate (MOST_SITES - l.site) 0;
}
