use Rattle.rb_world.proofs.Losing
use Rattle.rb_world.proofs.crashes.crashes_lose_events.Goals as goal

pub returns : goal.returns
returns c = Losing.loses
