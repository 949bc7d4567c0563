use Rattle.rb_history.specs.Entries.{event_json}
use Rattle.rb_history.proofs.OwnLines.{in_object}
use Rattle.rb_history.proofs.fast.event.parse_object.Goals as goal

pub returns : goal.returns
returns c =
    let read = c.in_ok-behind in (
      read.ensures.1,
      in_object (event_json c.args.config.now c.parse_own.new.event) c.args.text.now c.in_ok-inside.inside.now read.behind.now
          c.in_ok-rest.rest.now c.in_ok-inside.ensures read.ensures.2 c.in_ok-rest.ensures,
    )
