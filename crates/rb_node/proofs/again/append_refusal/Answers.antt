use Rattle.std.proofs.Common.{◌++◌, codes, decimal}
use Rattle.rb_history.proofs.Public.Appended.{then}
use Rattle.rb_node.proofs.AnswerTexts.{head_text, refusal_line}
use Rattle.rb_node.proofs.again.append_refusal.Goals as goal

pub returns : goal.returns
returns c = then c.append_number.result c.args.out.now.items c.append_answer_head.new.out.items c.append_number.new.out.items
    (head_text (codes "{") c.args.id.now) (codes "{\"refused\":" ++ (decimal c.args.number ++ codes "},\"sends\":[],\"then\":[]}\n")) _
    c.in_ok-append_answer_head.ensures.added c.append_number.ensures
    (refusal_line c.args.id.now c.args.number c.in_ok-append_answer_head.ensures.id)
