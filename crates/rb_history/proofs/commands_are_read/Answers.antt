use Rattle.rb_history.proofs.Back.{reads_commands}
use Rattle.rb_history.proofs.commands_are_read.Goals as goal

pub returns : goal.returns
returns c = reads_commands
