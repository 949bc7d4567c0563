use Rattle.std.proofs.Common.{◌≡◌, ◌+◌, ◌++◌, take}
use Rattle.rb_history.proofs.write.put.put_bytes.Given as goal

abbrev pub invariant-loop-i : goal.invariant-loop-i
invariant-loop-i l = take (l.at + l.i) l.space ≡ take l.at l.fn.space ++ take l.i l.bytes
