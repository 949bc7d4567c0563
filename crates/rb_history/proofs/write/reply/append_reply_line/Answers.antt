use Rattle.rb_history.proofs.Words.{codes, refl, compact_text, reply_json}
use Rattle.rb_history.proofs.Public.Appended.{then}
use Rattle.rb_history.proofs.write.reply.append_reply_line.Goals as goal

pub returns : goal.returns
returns c =
    then c.append.result c.args.out.now.items c.append_value.new.out.items c.append.new.out.items
    (compact_text (reply_json c.args.reply.now)) (codes "\n") _ c.in_ok-append_value.ensures c.append.ensures refl
