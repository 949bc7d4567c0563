use Rattle.rb_runs.proofs.ReadBack.{inputs_back}
use Rattle.rb_runs.proofs.audit.laws.inputs_are_read_back.Goals as goal

pub returns : goal.returns
returns c =
    inputs_back c.configs_are_read.ensures c.entries_are_read.ensures c.lines_are_single.ensures.configs c.lines_are_single.ensures.entries
