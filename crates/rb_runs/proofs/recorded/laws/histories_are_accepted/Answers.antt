use Rattle.rb_runs.proofs.Accepted.{accepted}
use Rattle.rb_runs.proofs.recorded.laws.histories_are_accepted.Goals as goal

pub returns : goal.returns
returns c =
    accepted c.read_configs_are_configured.ensures c.read_commands_fit.ensures c.read_events_fit.ensures c.messages_are_read.ensures
    c.replies_fit.ensures.replies c.inputs_are_read_back.ensures
