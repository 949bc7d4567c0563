use Rattle.rb_runs.proofs.NextIsBank.{next_bank}
use Rattle.rb_runs.proofs.books.laws.next_is_configured.Goals as goal

pub returns : goal.returns
returns c = next_bank c.configs_are_read.ensures c.lines_are_single.ensures.configs c.inputs_are_read_back.ensures
