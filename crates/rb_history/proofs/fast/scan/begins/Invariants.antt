use Rattle.std.proofs.Common.{◌≡◌, ◌≤◌, ◌-◌, length, take}
use Rattle.rb_history.proofs.fast.scan.begins.Given as goal

abbrev pub invariant-loop-len : goal.invariant-loop-len
invariant-loop-len l = record { within : l.len ≤ length l.front; same : take l.len l.text ≡ take l.len l.front }

abbrev pub decreases-loop-len : goal.decreases-loop-len
decreases-loop-len l = length l.front - l.len
