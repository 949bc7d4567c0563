use Rattle.rb_history.proofs.Words.{◌≡◌, ◌++◌, codes, length, take, drop, [], map, Utf8, shadow, list_json, name_json}
use Rattle.rb_history.proofs.Public.Listed.{rest_text}
use Rattle.rb_history.proofs.write.verdict.append_open.Given as goal

abbrev pub invariant-loop-names : goal.invariant-loop-names
invariant-loop-names l = record {
  utf8 : shadow (Utf8 l.comma);
  front : take (length l.fn.out.items) l.out.items ≡ l.fn.out.items;
  written : l.out.items ++ rest_text l.comma (map (λ v. list_json name_json v.items) (drop l.names-index l.lacks))
      ≡ (l.fn.out.items ++ codes "{\"fault\":\"open\",\"lacks\":[") ++ rest_text [] (map (λ v. list_json name_json v.items) l.lacks);
}
