use Rattle.rb_history.proofs.Words.{Each, number_json, codes, length, take, ◌<◌, ◌^◌, ◌≡◌, shadow, Utf8}
use Rattle.rb_history.proofs.Reading.{BeginsWith}
use Rattle.rb_history.proofs.fast.counts.parse_first.Given as goal

abbrev pub invariant-loop-site : goal.invariant-loop-site
invariant-loop-site l = record {
  left : shadow (Utf8 l.left);
  sites : length l.counts ≡ l.site-end;
  fit : Each (λ n. n < 2 ^ 32) (take l.site l.counts);
  read : BeginsWith number_json l.text l.left (codes ",") (take l.site l.counts);
}
