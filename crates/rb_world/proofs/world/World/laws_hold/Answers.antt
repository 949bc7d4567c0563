-- All laws hold of a world, since it is the run of its events.
use Rattle.std.proofs.Common.{subst}
use Rattle.rb_world.specs.Laws.{SeenWorld}
use Rattle.rb_world.proofs.Headline.{Holds, holds_of_run}
use Rattle.rb_world.proofs.world.World.laws_hold.Goals as goal

pub returns : goal.returns
returns g c =
    let (headline, others) = subst (λ (x : SeenWorld). Holds x.settings x.world) c.self.view_is (holds_of_run _ c.self.invariant.0) in
    record { headline = headline; others = others }
