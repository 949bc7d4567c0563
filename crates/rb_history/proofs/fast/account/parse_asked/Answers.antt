use Rattle.std.proofs.Common.{append_assoc}
use Rattle.rb_history.proofs.fast.account.parse_asked.Goals as goal

pub returns : goal.returns
returns c = (
  c.in_ok-place.ensures.0,
  c.in_ok-n.ensures.0,
  rw (c.in_ok-place.ensures.1, c.in_ok-n.ensures.1) (simp append_assoc),
)
