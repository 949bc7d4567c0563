use Rattle.rb_runs.proofs.ReadAgain.{read_again}
use Rattle.rb_runs.proofs.ReadBack.{asked_inputs_back}
use Rattle.rb_runs.proofs.migrate.laws.migrations_are_read.Goals as goal

pub returns : goal.returns
returns c =
    let back = asked_inputs_back c.configs_are_read.ensures c.entries_are_read.ensures c.lines_are_single.ensures.configs
    c.lines_are_single.ensures.entries in
    read_again c.read_configs_are_configured.ensures c.read_entries_fit.ensures back
