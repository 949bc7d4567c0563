use Rattle.rb_runs.proofs.Replays.{replays}
use Rattle.rb_runs.proofs.migrate.laws.migrated_replays_are_equal.Goals as goal

pub returns : goal.returns
returns c = replays
