use Rattle.rb_history.proofs.Words.{numbered_from, numbered_json, Each, MOST_SITES, drop, length, take, ◌-◌, ◌<◌, ◌^◌, ◌≡◌, ◌≤◌, replicate}
use Rattle.rb_history.proofs.Words.{shadow, Utf8}
use Rattle.rb_history.proofs.Reading.{BeginsWith}
use Rattle.rb_history.proofs.fast.counts.parse_numbered.Given as goal

abbrev pub invariant-sites : goal.invariant-sites
invariant-sites l = record {
  left : shadow (Utf8 l.left);
  comma : shadow (Utf8 l.comma);
  few : l.least ≤ MOST_SITES;
  sites : length l.counts ≡ MOST_SITES;
  none : drop l.least l.counts ≡ replicate (MOST_SITES - l.least) 0;
  fit : Each (λ n. n < 2 ^ 32) (take l.least l.counts);
  read : BeginsWith numbered_json l.text l.left l.comma (numbered_from 0 (take l.least l.counts));
}

abbrev pub decreases-sites : goal.decreases-sites
decreases-sites l = MOST_SITES - l.least
