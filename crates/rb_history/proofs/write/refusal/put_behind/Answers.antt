use Rattle.rb_history.proofs.Words.{escape_byte, append_assoc}
use Rattle.rb_history.proofs.Plain.{numerals}
use Rattle.rb_history.proofs.Put.{placed_is, placed_then}
use Rattle.rb_history.proofs.write.refusal.put_behind.Goals as goal

pub returns : goal.returns
unfolding escape_byte
returns c =
    placed_is (rw numerals.1 (simp append_assoc)) (placed_then c.put_text-at.ensures (placed_then c.put_small-at.ensures.text
    (placed_then c.put_text-at-2.ensures (placed_then c.put_small-at-2.ensures.text c.put_text.ensures))))
