use Rattle.std.proofs.Common.{true, false, subst}
use Rattle.serde_json.specs.Written.{compact_text}
use Rattle.rb_history.specs.Adds.{Adds}
use Rattle.rb_history.specs.Entries.{asked_entry_json}
use Rattle.rb_node.proofs.Recorded.{tagged}
use Rattle.rb_node.proofs.step.append_recorded.Goals as goal

pub returns-then-may_be_asked : goal.returns-then-may_be_asked
returns-then-may_be_asked c = tagged c.append_line_with.result c.args.config.now c.args.site c.args.id.now c.args.entry.now
    c.args.out.now.items c.append_line_with.new.out.items true c.if-may_be_asked.ensures
    (subst (λ id. Adds c.append_line_with.result c.args.out.now.items c.append_line_with.new.out.items
    (compact_text (asked_entry_json c.args.config.now c.args.site (record { id = id; entry = c.args.entry.now })))) c.as_bytes.ensures.same
    c.append_line_with.ensures)

pub returns : goal.returns
returns c = tagged c.append_line_with-2.result c.args.config.now c.args.site c.args.id.now c.args.entry.now
    c.args.out.now.items c.append_line_with-2.new.out.items false c.if-may_be_asked.ensures c.append_line_with-2.ensures
