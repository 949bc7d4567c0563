use Rattle.std.proofs.Common.{append_assoc}
use Rattle.rb_history.proofs.fast.account.parse_account_between.Goals as goal

pub returns : goal.returns
returns c = (
  c.in_ok-place.ensures.known,
  rw (c.in_ok-parse_prefix.ensures, c.in_ok-place.ensures.text, c.in_ok-parse_prefix-2.ensures) (simp append_assoc),
)
