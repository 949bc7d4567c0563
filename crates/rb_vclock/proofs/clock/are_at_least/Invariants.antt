use Rattle.std.proofs.Common.{◌≤◌, ◌<◌, slice_index, length, ℕ}
use Rattle.std.specs.Prelude.{◌↔◌, IsTrue}
use Rattle.rb_vclock.proofs.clock.are_at_least.Given as goal

abbrev pub invariant-loop-entry : goal.invariant-loop-entry
invariant-loop-entry l = IsTrue l.fits ↔ ((k : ℕ) → k < length l.yielded → slice_index l.others k ≤ slice_index l.entries k)
