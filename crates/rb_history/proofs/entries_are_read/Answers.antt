use Rattle.rb_history.proofs.OwnLines.{entry_line}
use Rattle.rb_history.proofs.entries_are_read.Goals as goal

pub returns : goal.returns
returns c = entry_line
