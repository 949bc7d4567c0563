use Rattle.rb_history.proofs.Words.{request_json, Each, IsRequest, shadow, Utf8}
use Rattle.rb_history.proofs.Reading.{BeginsWith}
use Rattle.rb_history.proofs.fast.event.parse_requests.Given as goal

abbrev pub invariant-loop : goal.invariant-loop
invariant-loop l = record {
  left : shadow (Utf8 l.left);
  comma : shadow (Utf8 l.comma);
  fit : Each (IsRequest l.config) l.requests.items;
  read : BeginsWith (request_json l.config) l.text l.left l.comma l.requests.items;
}
