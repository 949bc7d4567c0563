use Rattle.rb_history.proofs.Words.{escape_byte, codes, decimal, ◌++◌}
use Rattle.rb_history.proofs.Plain.{numerals, two_written}
use Rattle.rb_history.proofs.fast.refusal.parse_behind.Goals as goal

pub returns : goal.returns
unfolding escape_byte
returns c = (
  (c.in_ok-seen.ensures.0, c.in_ok-needed.ensures.0),
  rw numerals.1 (two_written c.args.text.now (decimal c.in_ok-needed.needed) (codes "{\"needed\":") (decimal c.in_ok-seen.seen ++ codes "}")
      (codes ",\"refused\":9,\"seen\":") c.in_ok-needed.rest.now c.in_ok-seen.rest.now c.in_ok-needed.ensures.1 c.in_ok-seen.ensures.1),
)
