use Rattle.rb_history.proofs.Words.{escape_byte, request_json, list_json, ap, codes, ◌++◌, ◌∙◌}
use Rattle.rb_history.proofs.Plain.{member_of}
use Rattle.rb_history.proofs.fast.event.parse_batch.Goals as goal

pub returns : goal.returns
unfolding escape_byte
returns c = rw c.new.ensures (
  tt,
  c.in_ok-requests.ensures.0,
  member_of (codes "batch") (list_json (request_json c.args.config.now) c.in_ok-requests.requests.items)
      (c.in_ok-list.ensures ∙ ap (λ l. codes "batch\":[" ++ l) c.in_ok-requests.ensures.1),
)
