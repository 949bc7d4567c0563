use Rattle.rb_history.proofs.Words.{◌≡◌, length, take, drop, MOST_SITES_OF_VERSION_1, items_view, counts_in}
use Rattle.rb_history.proofs.Reading.{with_front}
use Rattle.rb_history.proofs.read.counts.first_counts.Given as goal

abbrev pub invariant-loop-site : goal.invariant-loop-site
invariant-loop-site l = record {
  sites : length l.counts ≡ MOST_SITES_OF_VERSION_1;
  read : with_front (take l.site l.counts) (counts_in (items_view (drop l.site l.items.items))) ≡ counts_in (items_view l.items.items);
}
