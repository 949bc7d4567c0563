use Rattle.rb_history.proofs.Plain.{label_written}
use Rattle.rb_history.proofs.fast.kind.parse_label.Goals as goal

pub returns : goal.returns
returns c = label_written _ c.args.text.now _ _ c.in_ok-label.ensures.some c.in_ok-parse_prefix.ensures
