use Rattle.std.proofs.Common.{◌<◌, ◌≤◌, ◌-◌, length, take}
use Rattle.rb_history.specs.Blanks.{AreTokens}
use Rattle.rb_history.proofs.fast.blanks.find_blank.Given as goal

abbrev pub invariant-loop-len : goal.invariant-loop-len
invariant-loop-len l = record { some : 0 < l.len; within : l.len ≤ length l.text; whole : AreTokens (take l.len l.text) }

abbrev pub decreases-loop-len : goal.decreases-loop-len
decreases-loop-len l = length l.text - l.len
