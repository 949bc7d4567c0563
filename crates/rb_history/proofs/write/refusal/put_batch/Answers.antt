use Rattle.rb_history.proofs.Words.{escape_byte, refl}
use Rattle.rb_history.proofs.Plain.{numerals}
use Rattle.rb_history.proofs.Put.{placed_is, placed_then}
use Rattle.rb_history.proofs.write.refusal.put_batch.Goals as goal

pub returns : goal.returns
unfolding escape_byte
returns c =
    placed_is (rw numerals.2 refl) (placed_then c.put_text-at.ensures (placed_then c.put_cause-at.ensures.text
    (placed_then c.put_text-at-2.ensures (placed_then c.put_byte-at.ensures.text c.put_text.ensures))))
