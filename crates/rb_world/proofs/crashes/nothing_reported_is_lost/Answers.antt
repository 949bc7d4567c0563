use Rattle.rb_world.proofs.Invisible
use Rattle.rb_world.proofs.Kept
use Rattle.rb_world.proofs.crashes.nothing_reported_is_lost.Goals as goal

pub returns : goal.returns
returns c s w led i d at later on = Kept.kept_at s w later i d on (Invisible.safe s w led) at
