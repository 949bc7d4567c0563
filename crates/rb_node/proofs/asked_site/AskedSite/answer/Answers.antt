use Rattle.std.proofs.Common.{sym}
use Rattle.rb_node.proofs.Recorded.{recorded-now, recorded-then, still-unchanging}
use Rattle.rb_node.proofs.asked_site.AskedSite.answer.Goals as goal

pub record_unchanging-requires : goal.record_unchanging-requires
record_unchanging-requires c =
    let done = c.in_ok-answer_if_changes in
    let mid = c.answer_if_changes.new in
    let is = still-unchanging done.field-0 c.args.self.now mid.self c.args.id.now c.args.event.now mid.reply done.ensures.recorded
    c.requires.free c.if-branch.false in
    record { free = is.free; unchanging = is.unchanging; reply = is.reply }

pub returns-then-branch : goal.returns-then-branch
returns-then-branch c =
    let done = c.in_ok-answer_if_changes in
    let mid = c.answer_if_changes.new in
    let now = recorded-now done.field-0 c.args.self.now mid.self c.args.id.now c.args.event.now mid.reply done.ensures.recorded
    (sym c.if-branch.true) in
    record { ok = (now.0, now.1, done.ensures.sent); err = tt }

pub returns : goal.returns
returns c =
    let done = c.in_ok-answer_if_changes in
    let mid = c.answer_if_changes.new in
    let both = recorded-then c.record_unchanging.result done.field-0 c.args.self.now mid.self c.record_unchanging.new.self c.args.id.now
    c.args.event.now mid.reply done.ensures.recorded c.requires.free (sym c.if-branch.false) done.ensures.sent
    c.record_unchanging.ensures.ok c.record_unchanging.ensures.err in
    record { ok = both.0; err = both.1 }
