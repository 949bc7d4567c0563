use Rattle.rb_history.proofs.Words.{request_json, IsRequest, [], rules, ◌++◌, ◌∷◌, ◌≡◌}
use Rattle.rb_history.proofs.Reading.{all_read, each_more, one_more}
use Rattle.rb_history.proofs.fast.event.parse_requests.Goals as goal

pub loop-init : goal.loop-init
loop-init c = record {
  left = search rules;
  comma = search rules;
  fit = search rules;
  read = rw c.new-requests.ensures.items (λ later rest e. e);
}

pub loop-preserved : goal.loop-preserved
loop-preserved c =
    let made = c.in_ok-request in
    let pushed : c.push.new.self.items ≡ c.loop.requests.items ++ made.request ∷ [] = search rules in
    record {
      left = search rules;
      comma = search rules;
      fit = each_more (IsRequest c.args.config.now) _ _ _ pushed c.loop.invariant.fit made.ensures.0;
      read = one_more (request_json c.args.config.now) c.args.text.now c.loop.left.now c.loop.comma.now _ _ _ _ _
          pushed c.loop.invariant.read c.in_ok-parse_prefix.ensures made.ensures.1;
    }

pub returns-in-Some : goal.returns-in-Some
returns-in-Some c = (
  c.loop.invariant.fit,
  all_read (request_json c.args.config.now) c.args.text.now _ c.loop.comma.now _ c.loop.requests.items
      c.loop.invariant.read c.in-Some.ensures,
)
