-- The entries below are the same.
use Rattle.std.proofs.Common.{◌≡◌, take}
use Rattle.rb_auditor.proofs.checking.recorded.are_same.Given as goal

abbrev pub invariant-loop-k : goal.invariant-loop-k
invariant-loop-k l = take l.k l.history ≡ take l.k l.other
