use Rattle.rb_history.proofs.ConfigBack.{config_line}
use Rattle.rb_history.proofs.configs_are_read.Goals as goal

pub returns : goal.returns
returns c = config_line
