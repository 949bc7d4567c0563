-- So far there is a site for each number below, and there is spare capacity for the others.
use Rattle.std.proofs.Common.{◌≡◌, ◌≤◌, All, map, vec_len, vec_capacity}
use Rattle.std.specs.List.{range_with_len}
use Rattle.rb_site.specs.Events.{first_site}
use Rattle.rb_site.specs.Seen.{SeenSite, state_of}
use Rattle.rb_world.proofs.world.open_sites.Given as goal

abbrev pub invariant-loop-me : goal.invariant-loop-me
invariant-loop-me g l =
    (map state_of l.sites.items ≡ map first_site (range_with_len 0 l.me))
    × All (λ (x : SeenSite). x.settings ≡ l.config) l.sites.items
    × (vec_len l.sites ≡ l.me)
    × (l.config.sites ≤ vec_capacity l.sites)
