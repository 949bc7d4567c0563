use Rattle.rb_history.proofs.Words.{◌≡◌, ◌≤◌, ◌-◌, length, take, drop, replicate, MOST_SITES, items_view, numbered_in}
use Rattle.rb_history.proofs.Reading.{with_front}
use Rattle.rb_history.proofs.read.counts.numbered_counts.Given as goal

abbrev pub invariant-loop-item : goal.invariant-loop-item
invariant-loop-item l = record {
  few : l.least ≤ MOST_SITES;
  sites : length l.counts ≡ MOST_SITES;
  none : drop l.least l.counts ≡ replicate (MOST_SITES - l.least) 0;
  read : with_front (take l.least l.counts) (numbered_in l.least (items_view (drop l.item-index l.items))) ≡ numbered_in 0
      (items_view l.items);
}
