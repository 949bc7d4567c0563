use Rattle.rb_history.proofs.Words.{◌≡◌, ◌++◌, codes, length, take, drop, [], map, Utf8, shadow, numbered_from, numbered_json}
use Rattle.rb_history.proofs.Public.Listed.{rest_text}
use Rattle.rb_history.proofs.write.counts.append_numbered.Given as goal

abbrev pub invariant-loop-site : goal.invariant-loop-site
invariant-loop-site l = record {
  utf8 : shadow (Utf8 l.comma);
  front : take (length l.fn.out.items) l.out.items ≡ l.fn.out.items;
  written : l.out.items ++ rest_text l.comma
      (map numbered_json (numbered_from l.site (drop l.site l.counts))) ≡ (l.fn.out.items ++ codes "[") ++ rest_text []
      (map numbered_json (numbered_from 0 l.counts));
}
