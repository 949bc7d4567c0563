-- The bytes that are left are those of the lengths that are left, if all are.
use Rattle.std.proofs.Common.{◌≡◌, ◌+◌, drop, sum}
use Rattle.rb_capi.proofs.journals.are_lengths_of.Given as goal

abbrev pub invariant-loop-length : goal.invariant-loop-length
invariant-loop-length l = sum (drop l.length-index l.lengths) + l.bytes ≡ sum l.lengths + l.left
