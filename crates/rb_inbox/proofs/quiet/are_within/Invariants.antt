use Rattle.std.proofs.Common.{◌≤◌, ◌<◌, slice_index, length, ℕ}
use Rattle.std.specs.Bool.{OnTrue}
use Rattle.rb_inbox.proofs.quiet.are_within.Given as goal

-- the pairs that were looked at
abbrev pub invariant-loop-entry : goal.invariant-loop-entry
invariant-loop-entry l = OnTrue l.within ((k : ℕ) → k < length l.yielded → slice_index l.entries k ≤ slice_index l.others k)
