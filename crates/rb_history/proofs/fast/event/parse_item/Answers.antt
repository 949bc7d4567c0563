use Rattle.rb_history.specs.Entries.{request_json}
use Rattle.rb_history.proofs.OwnLines.{in_object}
use Rattle.rb_history.proofs.fast.event.parse_item.Goals as goal

pub returns : goal.returns
returns c = (
  c.in_ok-request.ensures.0,
  in_object (request_json c.args.config.now c.in_ok-request.request) c.args.text.now c.in_ok-parse_prefix.field-0.now
      c.in_ok-request.rest.now c.in_ok-parse_prefix-2.field-0.now c.in_ok-parse_prefix.ensures c.in_ok-request.ensures.1
      c.in_ok-parse_prefix-2.ensures,
)
