use Rattle.std.proofs.Common.{◌++◌, ap, ◌∙◌}
use Rattle.rb_history.proofs.fast.account.parse_account_behind.Goals as goal

pub returns : goal.returns
returns c = (
  c.in_ok-place.ensures.known,
  c.in_ok-parse_prefix.ensures ∙ ap (λ l. c.args.front.now ++ l) c.in_ok-place.ensures.text,
)
