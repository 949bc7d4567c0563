use Rattle.rb_history.proofs.Words.{◌≡◌, ◌≤◌, ◌-◌, length, take, list_all, is_id_byte, true}
use Rattle.rb_history.proofs.fast.id.id_len.Given as goal

abbrev pub invariant-loop-len : goal.invariant-loop-len
invariant-loop-len l = record { within : l.len ≤ length l.text; bytes : list_all is_id_byte (take l.len l.text) ≡ true }

abbrev pub decreases-loop-len : goal.decreases-loop-len
decreases-loop-len l = length l.text - l.len
