use Rattle.rb_history.proofs.Words.{escape_byte, number_json, ap, codes, ◌++◌, ◌∙◌}
use Rattle.rb_history.proofs.Plain.{member_of}
use Rattle.rb_history.proofs.fast.event.parse_pass.Goals as goal

pub returns : goal.returns
unfolding escape_byte
returns c = (
  tt,
  c.in_ok-to.ensures.0,
  member_of (codes "pass") (number_json c.in_ok-to.to) (c.in_ok-parse_prefix.ensures ∙ ap (λ l. codes "pass\":" ++ l) c.in_ok-to.ensures.1),
)
