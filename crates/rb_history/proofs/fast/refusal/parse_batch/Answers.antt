use Rattle.rb_history.proofs.Words.{escape_byte, cause_json, compact_text, codes, decimal, ◌++◌}
use Rattle.rb_history.proofs.Plain.{numerals, between}
use Rattle.rb_history.proofs.fast.refusal.parse_batch.Goals as goal

pub returns : goal.returns
unfolding escape_byte
returns c = (
  (c.in_ok-index.ensures.0, c.in_ok-cause.ensures.0),
  rw numerals.2 (between _ (codes "{\"cause\":") _ (compact_text (cause_json c.in_ok-cause.cause)) _
      (codes ",\"index\":" ++ (decimal c.in_ok-index.index ++ codes ",\"refused\":13}")) _ c.in_ok-parse_prefix.ensures
      c.in_ok-cause.ensures.1 c.in_ok-index.ensures.1),
)
