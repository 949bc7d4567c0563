use Rattle.rb_history.proofs.Words.{◌≡◌, ◌++◌, codes, length, take, drop, [], map, Utf8, shadow, request_json}
use Rattle.rb_history.proofs.Public.Listed.{rest_text}
use Rattle.rb_history.proofs.write.event.append_requests.Given as goal

abbrev pub invariant-loop-request : goal.invariant-loop-request
invariant-loop-request l = record {
  utf8 : shadow (Utf8 l.comma);
  front : take (length l.fn.out.items) l.out.items ≡ l.fn.out.items;
  written : l.out.items ++ rest_text l.comma
      (map (request_json l.config) (drop l.request-index l.requests)) ≡ (l.fn.out.items ++ codes "{\"batch\":[") ++ rest_text []
      (map (request_json l.config) l.requests);
}
