use Rattle.std.proofs.Common.{sym, arith}
use Rattle.rb_history.proofs.Plain.{quoted_blue}
use Rattle.rb_history.proofs.Put.{placed_is, placed_then}
use Rattle.rb_history.proofs.write.put.put_blue.Goals as goal

pub returns-clause-text : goal.returns-clause-text
returns-clause-text c =
    placed_is (sym (quoted_blue c.args.site c.args.n (omega arith) (omega arith))) (placed_then c.put_text-at.ensures
    (placed_then c.put_byte-at.ensures.text (placed_then c.put_text-at-2.ensures (placed_then c.put_small-at.ensures.text
    c.put_text.ensures))))
