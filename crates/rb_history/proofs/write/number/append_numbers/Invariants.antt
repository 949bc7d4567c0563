use Rattle.rb_history.proofs.Words.{◌≡◌, ◌++◌, codes, cond, length, take, drop, [], map, number_json}
use Rattle.rb_history.proofs.Public.Listed.{rest_text}
use Rattle.rb_history.proofs.write.number.append_numbers.Given as goal

abbrev pub invariant-loop-number : goal.invariant-loop-number
invariant-loop-number g l = record {
  front : take (length l.fn.out.items) l.out.items ≡ l.fn.out.items;
  written : l.out.items ++ rest_text (cond l.comma (codes ",") [])
      (map (λ n. number_json (g.N.Number.value n)) (drop l.number-index l.numbers)) ≡ (l.fn.out.items ++ codes "[") ++ rest_text []
      (map (λ n. number_json (g.N.Number.value n)) l.numbers);
}
