use Rattle.serde_json.specs.Written.{compact_text}
use Rattle.rb_history.specs.Replies.{reply_json}
use Rattle.rb_node.proofs.Failed.{kept, stayed}
use Rattle.rb_node.proofs.Recorded.{finished}
use Rattle.rb_node.proofs.node.Node.finish.Goals as goal

pub returns-in_err-append_value : goal.returns-in_err-append_value
returns-in_err-append_value g c = kept c.from_residual.result _ c.from_residual.ensures.0
    (c.in_err-append_value.ensures, stayed c.args.entries.now.items)

pub returns : goal.returns
returns g c = finished c.note.result _ _ c.args.text.now.items c.append_value.new.out.items
    (compact_text (reply_json c.args.entry.now.reply))
    c.args.entries.now.items c.note.new.entries.items c.in_ok-append_value.ensures c.note.ensures
