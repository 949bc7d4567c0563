use Rattle.rb_history.proofs.Words.{◌≡◌, ◌++◌, length, take, drop, [], map, Utf8, shadow, accounts_of, start_json}
use Rattle.rb_history.proofs.Public.Listed.{rest_text}
use Rattle.rb_history.proofs.write.config.append_accounts.Given as goal

abbrev pub invariant-loop-place : goal.invariant-loop-place
invariant-loop-place l = record {
  utf8 : shadow (Utf8 l.comma);
  front : take (length l.fn.out.items) l.out.items ≡ l.fn.out.items;
  written : l.out.items ++ rest_text l.comma
      (map start_json (drop l.place (accounts_of l.config.names l.config.starts))) ≡ l.fn.out.items ++ rest_text []
      (map start_json (accounts_of l.config.names l.config.starts));
}
