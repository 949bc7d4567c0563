use Rattle.rb_history.proofs.OwnLines.{event_line}
use Rattle.rb_history.proofs.events_are_read.Goals as goal

pub returns : goal.returns
returns c = event_line
