use Rattle.std.proofs.Common.{◌≡◌, ◌&&◌, ℕ, drop}
use Rattle.rb_shadow.specs.Sound.{are_entries}
use Rattle.rb_shadow.proofs.deps.are_none.Given as goal

-- what was looked at and what is left to look at decide
abbrev pub invariant-loop-n : goal.invariant-loop-n
invariant-loop-n l = (limit : ℕ) → are_entries 0 limit l.entries ≡ (l.none && are_entries 0 limit (drop l.n-index l.entries))
