use Rattle.rb_history.proofs.Put.{placed_then}
use Rattle.rb_history.proofs.write.line.put_number_between.Goals as goal

pub returns : goal.returns
returns c = placed_then c.put_text-at.ensures (placed_then c.put_number-at.ensures.text c.put_text.ensures)
