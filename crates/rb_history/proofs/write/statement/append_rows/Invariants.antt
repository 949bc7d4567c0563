use Rattle.rb_history.proofs.Words.{◌≡◌, ◌++◌, cond, codes, length, take, drop, [], map, row_json}
use Rattle.rb_history.proofs.Public.Listed.{rest_text}
use Rattle.rb_history.proofs.write.statement.append_rows.Given as goal

abbrev pub invariant-loop-row : goal.invariant-loop-row
invariant-loop-row l = record {
  front : take (length l.fn.out.items) l.out.items ≡ l.fn.out.items;
  written : l.out.items ++ rest_text (cond l.comma (codes ",") []) (map row_json (drop l.row-index l.rows))
      ≡ l.fn.out.items ++ rest_text [] (map row_json l.rows);
}
