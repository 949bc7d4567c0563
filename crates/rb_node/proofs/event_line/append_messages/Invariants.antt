use Rattle.std.proofs.Common.{◌≡◌, ◌++◌, length, take, drop, []}
use Rattle.std.specs.Prelude.{map}
use denote.Text.{Utf8}
use denote.Shadow.{shadow}
use Rattle.rb_history.specs.Banks.{sent_json}
use Rattle.rb_history.proofs.Public.Listed.{rest_text}
use Rattle.rb_node.proofs.event_line.append_messages.Given as goal

abbrev pub invariant-loop-message : goal.invariant-loop-message
invariant-loop-message l = record {
  utf8 : shadow (Utf8 l.comma);
  front : take (length l.fn.out.items) l.out.items ≡ l.fn.out.items;
  written : l.out.items ++ rest_text l.comma (map (sent_json l.config l.bank) (drop l.message-index l.messages))
      ≡ l.fn.out.items ++ rest_text [] (map (sent_json l.config l.bank) l.messages);
}
