use Rattle.rb_history.proofs.Words.{refl, escape_byte}
use Rattle.rb_history.proofs.Put.{placed_is, placed_then}
use Rattle.rb_history.proofs.write.statement.put_empty.Goals as goal

pub returns : goal.returns
unfolding escape_byte
returns c =
    placed_is (rw c.requires.empty refl) (placed_then c.put_text-at.ensures (placed_then c.put_number-at.ensures.text
    (placed_then c.put_text-at-2.ensures (placed_then c.put_number-at-2.ensures.text c.put_text.ensures))))
