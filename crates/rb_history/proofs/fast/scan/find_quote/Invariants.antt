use Rattle.rb_history.proofs.Words.{◌≡◌, ◌≤◌, ◌-◌, length, take, escape}
use Rattle.rb_history.proofs.fast.scan.find_quote.Given as goal

abbrev pub invariant-loop-len : goal.invariant-loop-len
invariant-loop-len l = record { within : l.len ≤ length l.text; plain : escape (take l.len l.text) ≡ take l.len l.text }

abbrev pub decreases-loop-len : goal.decreases-loop-len
decreases-loop-len l = length l.text - l.len
