use Rattle.rb_history.proofs.Put.{placed_then}
use Rattle.rb_history.proofs.write.line.put_name_between.Goals as goal

pub returns : goal.returns
returns c = placed_then c.put_text-at.ensures (placed_then c.put_name-at.ensures.text c.put_text.ensures)
