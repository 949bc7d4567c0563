use Rattle.rb_runs.proofs.Words.{in_version_2}
use Rattle.rb_runs.proofs.Kept.{configured, entries}
use Rattle.rb_runs.proofs.migrate.laws.migrated_lines_are_read.Goals as goal

pub returns-clause-configs : goal.returns-clause-configs
returns-clause-configs c =
    λ line s read. c.configs_are_read.ensures (in_version_2 s) (configured s (c.read_configs_are_configured.ensures line s read))

pub returns-clause-entries : goal.returns-clause-entries
returns-clause-entries c = entries c.read_configs_are_configured.ensures c.entries_are_read.ensures c.read_entries_fit.ensures
