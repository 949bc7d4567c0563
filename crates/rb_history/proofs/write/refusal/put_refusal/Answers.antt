use Rattle.json.specs.Print.{escape_byte}
use Rattle.rb_history.proofs.Plain.{numerals}
use Rattle.rb_history.proofs.write.refusal.put_refusal.Goals as goal

pub returns-in-AlreadyCancelled : goal.returns-in-AlreadyCancelled
unfolding escape_byte
returns-in-AlreadyCancelled c = rw (c.in-AlreadyCancelled.is, numerals.0) c.put_number_between.ensures

pub returns-in-BadMessage : goal.returns-in-BadMessage
unfolding escape_byte
returns-in-BadMessage c = rw (c.in-BadMessage.is, numerals.3) c.put_number_between-in-BadMessage.ensures
