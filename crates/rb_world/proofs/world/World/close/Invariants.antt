-- So far each site after those left has reported its state, and there is spare capacity for the other reports.
use Rattle.std.proofs.Common.{◌+◌, ◌≤◌, vec_len, vec_capacity}
use Rattle.rb_world.proofs.Closing.{IsClosing}
use Rattle.rb_world.proofs.world.World.close.Given as goal

abbrev pub decreases-sites : goal.decreases-sites
decreases-sites g l = vec_len l.sites

abbrev pub invariant-sites : goal.invariant-sites
invariant-sites g l =
    IsClosing g.E.KeepsEntry.KEEPS l.fn.self.settings l.fn.self.world.sites l.reports.items l.sites.items
    × (vec_len l.reports + vec_len l.sites ≤ vec_capacity l.reports)
