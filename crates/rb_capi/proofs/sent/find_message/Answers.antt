-- The message is on this line, or on those after it, or nowhere.
use Rattle.std.proofs.Common.{length, sym}
use Rattle.std.proofs.lemmas.Bool.{eqb-true}
use Rattle.rb_capi.proofs.Messages.{behind_line, found_there, none_left}
use Rattle.rb_capi.proofs.sent.find_message.Goals as goal

pub returns-in-Found : goal.returns-in-Found
returns-in-Found c = found_there c.args.text.now c.lines.rest.now c.split_line.result.0.now c.split_line.result.1.now
    c.args.index c.lines.left c.in-Found.sent c.split_line.ensures.split c.lines.invariant (rw c.in-Found.is at c.in_ok-sent.ensures)

pub lines-preserved : goal.lines-preserved
lines-preserved c = behind_line c.args.text.now c.lines.rest.now c.split_line.result.0.now c.split_line.result.1.now
    c.args.index c.lines.left c.in-Behind.messages c.split_line.ensures.split c.lines.invariant
    (rw c.in-Behind.is at c.in_ok-sent.ensures)

pub returns : goal.returns
returns c = none_left c.args.text.now c.lines.rest.now c.args.index c.lines.left
    (eqb-true (length c.lines.rest.now) 0 (sym c.lines-test.ensures)) c.lines.invariant
