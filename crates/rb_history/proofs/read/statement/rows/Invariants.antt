use Rattle.rb_history.proofs.Words.{◌≡◌, drop, items_view, rows_in}
use Rattle.rb_history.proofs.Reading.{with_front}
use Rattle.rb_history.proofs.read.statement.rows.Given as goal

abbrev pub invariant-loop-item : goal.invariant-loop-item
invariant-loop-item l = with_front l.rows.items (rows_in (items_view (drop l.item-index l.item-items))) ≡ rows_in (items_view l.item-items)
