use Rattle.std.proofs.Common.{refl}
use Rattle.rb_node.proofs.Answered.{entries_stay, event_answered, other_answered, question_answered}
use Rattle.rb_node.proofs.node.Node.answer.Goals as goal

pub returns-in-Ok-Some-clause-answered : goal.returns-in-Ok-Some-clause-answered
returns-in-Ok-Some-clause-answered g c =
    let whole = c.answer_whole in
    event_answered whole.result g.M.Records.ALL c.args.self.now.site whole.new.self.site c.args.line.now _
    c.args.answers.now.items whole.new.answers.items c.args.entries.now.items whole.new.entries.items
    (rw c.in-Ok-Some.field-0-is at c.in-Ok-Some.ensures.read) whole.ensures.answered

pub returns-in-Err-Bad : goal.returns-in-Err-Bad
returns-in-Err-Bad g c =
    let asked = c.answer_question in
    let bad = c.in-Err-Bad.ensures.read c.in-Err-Bad.field-0-is in
    record {
      answered = question_answered asked.result g.M.Records.ALL c.args.self.now.site c.args.line.now c.args.answers.now.items
          asked.new.answers.items
          c.args.entries.now.items asked.ensures.answered;
      bad = λ e. (bad.0, bad.1, asked.ensures.bad e, refl);
      not_text = asked.ensures.not_text;
      err = entries_stay _ asked.result c.args.entries.now.items asked.ensures.err;
    }

pub returns-in-Ok-None-clause-answered : goal.returns-in-Ok-None-clause-answered
returns-in-Ok-None-clause-answered g c =
    let other = c.append_other_bank in
    other_answered other.result g.M.Records.ALL c.args.self.now.site c.args.line.now c.args.answers.now.items
    other.new.answers.items
    c.args.entries.now.items (rw c.in-Ok-None.field-0-is at c.in-Ok-None.ensures.read) other.ensures.added
