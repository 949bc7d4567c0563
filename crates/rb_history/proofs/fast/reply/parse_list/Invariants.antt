use Rattle.rb_history.proofs.Words.{Each, name_json, IsName, shadow, Utf8}
use Rattle.rb_history.proofs.Reading.{BeginsWith}
use Rattle.rb_history.proofs.fast.reply.parse_list.Given as goal

abbrev pub invariant-loop : goal.invariant-loop
invariant-loop l = record {
  left : shadow (Utf8 l.left);
  comma : shadow (Utf8 l.comma);
  fit : Each IsName l.names.items;
  read : BeginsWith name_json l.text l.left l.comma l.names.items;
}
