use Rattle.rb_history.proofs.Words.{escape_byte, behind_quote, word_of, name_text, codes, ◌++◌}
use Rattle.rb_history.proofs.Plain.{between}
use Rattle.rb_history.proofs.fast.reply.parse_made.Goals as goal

pub returns : goal.returns
unfolding escape_byte
returns c = (
  c.in_ok-name.ensures.0,
  between _ (codes "{\"kind\":\"") _ (behind_quote (word_of c.in_ok-kind.kind)) _
      (codes ",\"name\":\"" ++ (behind_quote (name_text c.in_ok-name.name) ++ codes "}")) _ c.in_ok-parse_prefix.ensures
      c.in_ok-kind.ensures c.in_ok-name.ensures.1,
)
