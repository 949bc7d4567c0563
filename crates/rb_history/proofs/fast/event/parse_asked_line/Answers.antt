use Rattle.rb_history.proofs.Words.{BeginsWithEvent, subst, sym, IfSome_then}
use Rattle.rb_history.proofs.OwnLines.{alone_line}
use Rattle.rb_history.proofs.fast.event.parse_asked_line.Goals as goal

pub returns-in_ok-parse_message-in-Some-eq115-Some-eq100-clause-value :
    goal.returns-in_ok-parse_message-in-Some-eq115-Some-eq100-clause-value
returns-in_ok-parse_message-in-Some-eq115-Some-eq100-clause-value c =
    let read = c.in_ok-parse_message-in-Some-eq115-Some-eq100 in
    let inside = c.in_ok-parse_prefix-in-Some-eq115-Some-eq100 in
    let s = c.args.config.now in
    let e = c.parse_message.new.event in
    let begun = subst (λ l. BeginsWithEvent s e l read.field-0.now) (sym inside.ensures) read.ensures.event in
    IfSome_then c.parse_no_more.result c.parse_no_more.ensures (λ id h.
    alone_line s c.sites-sites.ensures.configured e c.args.line.now read.field-0.now id.now begun h.0 h.1)
