use Rattle.rb_history.proofs.Words.{escape_byte, name_json, codes}
use Rattle.rb_history.proofs.Plain.{member_of}
use Rattle.rb_history.proofs.fast.event.parse_apply.Goals as goal

pub returns : goal.returns
unfolding escape_byte
returns c = (tt, c.in_ok-name.ensures.0, member_of (codes "apply") (name_json c.in_ok-name.name) c.in_ok-name.ensures.1)
