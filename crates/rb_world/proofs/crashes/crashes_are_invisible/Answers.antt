use Rattle.rb_world.proofs.Invisible
use Rattle.rb_world.proofs.crashes.crashes_are_invisible.Goals as goal

pub returns : goal.returns
returns c s w led = Invisible.one_world s w (Invisible.safe s w led)
