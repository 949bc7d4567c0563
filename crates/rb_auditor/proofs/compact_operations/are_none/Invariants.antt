-- The entries that were looked at and those that are left to look at decide.
use Rattle.std.proofs.Common.{◌≡◌, ◌&&◌, drop}
use Rattle.rb_shadow.specs.Sound.{are_entries}
use Rattle.rb_auditor.proofs.compact_operations.are_none.Given as goal

abbrev pub invariant-loop-n : goal.invariant-loop-n
invariant-loop-n l = are_entries 0 0 l.entries ≡ (l.none && are_entries 0 0 (drop l.n-index l.entries))
