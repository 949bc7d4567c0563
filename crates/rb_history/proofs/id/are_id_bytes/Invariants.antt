use Rattle.rb_history.proofs.Words.{◌≡◌, drop, list_all, is_id_byte}
use Rattle.rb_history.proofs.id.are_id_bytes.Given as goal

abbrev pub invariant-loop-b : goal.invariant-loop-b
invariant-loop-b l = list_all is_id_byte l.bytes ≡ list_all is_id_byte (drop l.b-index l.bytes)
