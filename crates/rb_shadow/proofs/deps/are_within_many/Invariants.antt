use Rattle.std.proofs.Common.{◌≡◌, ◌-◌, ◌&&◌, drop}
use Rattle.rb_shadow.specs.Sound.{are_entries}
use Rattle.rb_shadow.proofs.deps.are_within_many.Given as goal

-- what was looked at and what is left to look at decide
abbrev pub invariant-loop-site : goal.invariant-loop-site
invariant-loop-site l = are_entries l.sites l.limit l.entries ≡ (l.fits && are_entries (l.sites - l.site) l.limit (drop l.site l.entries))
