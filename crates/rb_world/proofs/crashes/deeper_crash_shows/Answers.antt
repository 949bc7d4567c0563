use Rattle.rb_world.proofs.Shown
use Rattle.rb_world.proofs.crashes.deeper_crash_shows.Goals as goal

pub returns : goal.returns
returns c = Shown.deeper_show
