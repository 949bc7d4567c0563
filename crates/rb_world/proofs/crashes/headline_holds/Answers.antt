use Rattle.rb_world.specs.CrashLaws.{IsWorldOf}
use Rattle.rb_site.specs.Worlds.{world_of_run}
use Rattle.rb_world.proofs.Cuts
use Rattle.rb_world.proofs.Invisible
use Rattle.rb_world.proofs.crashes.headline_holds.Goals as goal

pub returns-clause-headline : goal.returns-clause-headline
returns-clause-headline c s w led some few =
    let x : IsWorldOf s w = Cuts.itself s w (Invisible.safe s w led) in
    (world_of_run s x.events, x.sites, x.sent, c.laws_always_hold.ensures.headline s x.events some few x.own)

pub returns-clause-all : goal.returns-clause-all
returns-clause-all c s w led some few =
    let x : IsWorldOf s w = Cuts.itself s w (Invisible.safe s w led) in
    (x, c.laws_always_hold.ensures.headline s x.events some few x.own, c.laws_always_hold.ensures.others s x.events some few x.own)
