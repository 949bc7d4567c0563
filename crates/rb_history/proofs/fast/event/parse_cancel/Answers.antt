use Rattle.rb_history.proofs.Words.{escape_byte, name_json, codes}
use Rattle.rb_history.proofs.Plain.{member_of}
use Rattle.rb_history.proofs.fast.event.parse_cancel.Goals as goal

pub returns : goal.returns
unfolding escape_byte
returns c = (c.in_ok-target.ensures.0, member_of (codes "cancel") (name_json c.in_ok-target.target) c.in_ok-target.ensures.1)
