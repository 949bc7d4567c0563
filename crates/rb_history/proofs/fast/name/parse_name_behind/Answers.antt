use Rattle.std.proofs.Common.{◌++◌, ap, ◌∙◌}
use Rattle.rb_history.proofs.Plain.{name_written}
use Rattle.rb_history.proofs.fast.name.parse_name_behind.Goals as goal

pub returns : goal.returns
returns c = (
  c.in_ok-name.ensures.0,
  c.in_ok-parse_prefix.ensures
      ∙ ap (λ l. c.args.front.now ++ l) (name_written c.in_ok-name.name _ _ c.in_ok-name.ensures.0 c.in_ok-name.ensures.1),
)
