use Rattle.std.proofs.Common.{◌++◌, codes, [], add-one, drop-cons, arith, refl, rules}
use Rattle.std.specs.Prelude.{map}
use Rattle.rb_history.specs.Banks.{sent_json}
use Rattle.rb_history.proofs.Public.Appended.{both, front_of_front, front_of_sum, then}
use Rattle.rb_history.proofs.Public.Listed.{item_written, items_written, rest_text, whole_text}
use Rattle.rb_node.proofs.Failed.{kept, stayed}
use Rattle.rb_node.proofs.event_line.append_messages.Goals as goal

pub loop-message-init : goal.loop-message-init
loop-message-init c = record { utf8 = search rules; front = stayed c.args.out.now.items; written = refl }

pub loop-message-preserved : goal.loop-message-preserved
loop-message-preserved c =
    let out = c.loop-message.out.items in
    let new = c.append_sent_message.new.out.items in
    let messages = c.args.messages.now in
    let i = c.loop-message.message-index in
    let added = both out c.append.new.out.items new c.loop-message.comma.now _ c.in_ok-append.ensures c.in_ok-append_sent_message.ensures in
    record {
      utf8 = search rules;
      front = front_of_front c.args.out.now.items out new c.loop-message.invariant.front (front_of_sum out new _ added);
      written = item_written (sent_json c.args.config.now c.args.bank.now) out new c.loop-message.comma.now _ messages i _
          (rw add-one (drop-cons messages i _ (omega arith))) added c.loop-message.invariant.written;
    }

pub returns : goal.returns
returns c =
    let old = c.args.out.now.items in
    let out = c.loop-message.out.items in
    let messages = c.args.messages.now in
    let list = rest_text [] (map (sent_json c.args.config.now c.args.bank.now) messages) in
    then c.append-2.result old out c.append-2.new.out.items list (codes "]") _
    (items_written (sent_json c.args.config.now c.args.bank.now) out c.loop-message.comma.now (old ++ list) messages
    c.loop-message.message-index (omega arith) c.loop-message.invariant.written) c.append-2.ensures
    (whole_text (map (sent_json c.args.config.now c.args.bank.now) messages))

pub returns-in_err-append_sent_message : goal.returns-in_err-append_sent_message
returns-in_err-append_sent_message c =
    let old = c.args.out.now.items in
    let out = c.loop-message.out.items in
    let mid = c.append.new.out.items in
    kept c.from_residual-in_err-append_sent_message.result _ c.from_residual-in_err-append_sent_message.ensures.0
    (front_of_front old mid c.append_sent_message.new.out.items
    (front_of_front old out mid c.loop-message.invariant.front (front_of_sum out mid _ c.in_ok-append.ensures))
    c.in_err-append_sent_message.ensures)
