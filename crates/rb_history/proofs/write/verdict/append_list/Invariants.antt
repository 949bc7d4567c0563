use Rattle.rb_history.proofs.Words.{◌≡◌, ◌++◌, codes, cond, length, take, drop, [], map, name_json}
use Rattle.rb_history.proofs.Public.Listed.{rest_text}
use Rattle.rb_history.proofs.write.verdict.append_list.Given as goal

abbrev pub invariant-loop-name : goal.invariant-loop-name
invariant-loop-name l = record {
  front : take (length l.fn.out.items) l.out.items ≡ l.fn.out.items;
  written : l.out.items ++ rest_text (cond l.comma (codes ",") []) (map name_json (drop l.name-index l.names))
      ≡ (l.fn.out.items ++ (l.fn.front ++ codes "[")) ++ rest_text [] (map name_json l.names);
}
