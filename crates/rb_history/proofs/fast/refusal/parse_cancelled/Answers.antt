use Rattle.rb_history.proofs.Plain.{numerals}
use Rattle.json.specs.Print.{escape_byte}
use Rattle.rb_history.proofs.fast.refusal.parse_cancelled.Goals as goal

pub returns : goal.returns
unfolding escape_byte
returns c = (c.in_ok-position.ensures.0, rw numerals.0 c.in_ok-position.ensures.1)
