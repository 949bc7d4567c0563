use Rattle.rb_history.proofs.Put.{placed_then}
use Rattle.rb_history.proofs.write.statement.put_row_front.Goals as goal

pub returns-clause-text : goal.returns-clause-text
returns-clause-text c =
    placed_then c.put_text-at.ensures (placed_then c.put_small-at.ensures.text (placed_then c.put_text-at-2.ensures
    (placed_then c.put_name-at.ensures.text (placed_then c.put_text-at-3.ensures (placed_then c.put_word-at.ensures.text
    c.put_text.ensures)))))
