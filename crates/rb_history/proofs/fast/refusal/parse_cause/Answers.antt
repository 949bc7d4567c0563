use Rattle.json.specs.Print.{escape_byte}
use Rattle.rb_history.proofs.fast.refusal.parse_cause.Goals as goal

pub returns-in-Some : goal.returns-in-Some
unfolding escape_byte
returns-in-Some c = (tt, c.in-Some.ensures)
