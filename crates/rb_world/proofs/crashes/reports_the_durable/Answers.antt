use Rattle.rb_world.proofs.Invisible
use Rattle.rb_world.proofs.crashes.reports_the_durable.Goals as goal

pub returns : goal.returns
returns c s w led = (Invisible.safe s w led).order
