use Rattle.rb_world.proofs.Losing
use Rattle.rb_world.proofs.crashes.crash_forgets_the_reported.Goals as goal

pub returns : goal.returns
returns c = Losing.forgets
