use Rattle.std.proofs.Common.{◌++◌, add-one, drop-cons, get_or, arith, refl}
use Rattle.rb_node.specs.Asked.{asked_state}
use Rattle.rb_node.specs.Index.{lines_again}
use Rattle.rb_node.specs.declared.sent_entry.Sending.TheVariants.{Operations}
use Rattle.rb_node.specs.declared.sent_entry.SentEntry.{SentEntry}
use Rattle.rb_history.proofs.Public.Appended.{front_of_front, front_of_sum}
use Rattle.rb_node.proofs.Failed.{stayed}
use Rattle.rb_node.proofs.QuestionTexts.{line_written, lines_written}
use Rattle.rb_node.proofs.node.Node.append_all_again.Goals as goal

pub loop-entry-init : goal.loop-entry-init
loop-entry-init g c = record { front = stayed c.args.out.now.items; written = refl }

pub loop-entry-preserved : goal.loop-entry-preserved
loop-entry-preserved g c =
    let site = c.args.self.now.site in
    let out = c.loop-entry.out.items in
    let new = c.append_again.new.out.items in
    let entries = c.args.entries.now in
    let i = c.loop-entry.entry-index in
    let entry : SentEntry = get_or entries i (record { before = 0; sent = Operations 0 0 }) in
    record {
      front = front_of_front c.args.out.now.items out new c.loop-entry.invariant.front
          (front_of_sum out new _ c.in_ok-append_again.ensures);
      written = line_written site.settings site.bank (asked_state site).ops out new _ entries i entry
          (rw add-one (drop-cons entries i _ (omega arith))) c.in_ok-append_again.ensures c.loop-entry.invariant.written;
    }

pub returns : goal.returns
returns g c =
    let site = c.args.self.now.site in
    let entries = c.args.entries.now in
    lines_written site.settings site.bank (asked_state site).ops c.loop-entry.out.items
    (c.args.out.now.items ++ lines_again site.settings site.bank (asked_state site).ops entries) entries
    c.loop-entry.entry-index (omega arith)
    c.loop-entry.invariant.written
