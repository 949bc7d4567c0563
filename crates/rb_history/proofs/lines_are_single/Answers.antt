use Rattle.rb_history.proofs.Texts.{configs_lines, entries_lines}
use Rattle.rb_history.proofs.lines_are_single.Goals as goal

pub returns-clause-configs : goal.returns-clause-configs
returns-clause-configs c = configs_lines

pub returns-clause-entries : goal.returns-clause-entries
returns-clause-entries c = entries_lines
