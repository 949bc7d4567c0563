use Rattle.rb_history.proofs.CommandsFit.{commands_fit}
use Rattle.rb_history.proofs.read_commands_fit.Goals as goal

pub returns : goal.returns
returns c = commands_fit
