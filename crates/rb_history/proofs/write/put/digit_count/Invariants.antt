use Rattle.std.proofs.Common.{◌≡◌, ◌+◌, length, decimal}
use Rattle.rb_history.proofs.write.put.digit_count.Given as goal

abbrev pub invariant-loop-left : goal.invariant-loop-left
invariant-loop-left l = length (decimal l.n) ≡ length (decimal l.left) + l.count

abbrev pub decreases-loop-left : goal.decreases-loop-left
decreases-loop-left l = l.left
