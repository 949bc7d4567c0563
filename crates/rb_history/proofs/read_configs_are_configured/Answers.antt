use Rattle.rb_history.proofs.ConfigBack.{read_configured}
use Rattle.rb_history.proofs.read_configs_are_configured.Goals as goal

pub returns : goal.returns
returns c = read_configured
