use Rattle.rb_history.proofs.Words.{subst, sym, IfSome, BeginsWithEvent}
use Rattle.rb_history.proofs.fast.event.parse_event.Goals as goal

pub returns-in_ok-parse_prefix-in-Some-eq115-Some-eq100 : goal.returns-in_ok-parse_prefix-in-Some-eq115-Some-eq100
returns-in_ok-parse_prefix-in-Some-eq115-Some-eq100 c =
    let inside = c.in_ok-parse_prefix-in-Some-eq115-Some-eq100 in
    subst (λ l. IfSome c.parse_message.result (λ rest. BeginsWithEvent c.args.config.now c.parse_message.new.event l rest.now))
    (sym inside.ensures) c.parse_message.ensures.event
