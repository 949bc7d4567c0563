-- The place of the next piece is within the bytes.
use Rattle.std.proofs.Common.{◌-◌, ◌≤◌, length}
use Rattle.rb_journal.proofs.named_file.write_again.Given as goal

abbrev pub invariant-loop-at : goal.invariant-loop-at
invariant-loop-at l = l.at ≤ length l.bytes

abbrev pub decreases-loop-at : goal.decreases-loop-at
decreases-loop-at l = length l.bytes - l.at
