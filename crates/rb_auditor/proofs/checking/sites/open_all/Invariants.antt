-- So far there is a site for each number below, and there is spare capacity for the others.
use Rattle.std.proofs.Common.{◌≡◌, ◌≤◌, map, vec_len, vec_capacity}
use Rattle.std.specs.List.{range_with_len}
use Rattle.rb_site.specs.Seen.{first_seen}
use Rattle.rb_auditor.proofs.checking.sites.open_all.Given as goal

abbrev pub invariant-loop-me : goal.invariant-loop-me
invariant-loop-me l =
    (l.sites.items ≡ map (first_seen l.config) (range_with_len 0 l.me))
    × (vec_len l.sites ≡ l.me)
    × (l.config.sites ≤ vec_capacity l.sites)
