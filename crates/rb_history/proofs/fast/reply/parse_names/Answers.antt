use Rattle.rb_history.proofs.Words.{escape_byte, name_json, items_of, items_text, codes, false, map}
use Rattle.rb_history.proofs.Plain.{between}
use Rattle.rb_history.proofs.fast.reply.parse_names.Goals as goal

pub returns : goal.returns
unfolding escape_byte
returns c = rw c.new.ensures (
  c.in_ok-names.ensures.0,
  between _ (codes "{\"names\":[") _ (items_text false (items_of (map name_json c.in_ok-names.names.items))) _ (codes "}") _
      c.in_ok-parse_prefix.ensures c.in_ok-names.ensures.1 c.in_ok-parse_prefix-2.ensures,
)
