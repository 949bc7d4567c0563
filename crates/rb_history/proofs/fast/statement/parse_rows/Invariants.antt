use Rattle.rb_history.proofs.Words.{Each, IsStatementRow, row_json, shadow, Utf8}
use Rattle.rb_history.proofs.Reading.{BeginsWith}
use Rattle.rb_history.proofs.fast.statement.parse_rows.Given as goal

abbrev pub invariant-loop : goal.invariant-loop
invariant-loop l = record {
  left : shadow (Utf8 l.left);
  comma : shadow (Utf8 l.comma);
  fit : Each IsStatementRow l.rows.items;
  read : BeginsWith row_json l.text l.left l.comma l.rows.items;
}
