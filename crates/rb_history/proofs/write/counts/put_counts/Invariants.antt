use Rattle.rb_history.proofs.Words.{◌≡◌, ◌≤◌, ◌+◌, ◌*◌, ◌++◌, codes, cond, take, drop, [], map, number_json}
use Rattle.rb_history.proofs.Public.Listed.{rest_text}
use Rattle.rb_history.proofs.write.counts.put_counts.Given as goal

abbrev pub invariant-loop-count : goal.invariant-loop-count
invariant-loop-count l = record {
  within : l.end ≤ l.at + (1 + 11 * l.count-index);
  written : take l.end l.space ++ rest_text (cond l.comma (codes ",") []) (map number_json (drop l.count-index l.counts))
      ≡ (take l.at l.fn.space ++ codes "[") ++ rest_text [] (map number_json l.counts);
}
