use Rattle.rb_history.specs.Ids.{AskedEvent}
use Rattle.rb_node.proofs.Answered.{known_answered}
use Rattle.rb_node.proofs.node.Node.answer_asked.Goals as goal

pub returns-in-Some : goal.returns-in-Some
returns-in-Some g c =
    let asked : AskedEvent = record { id = c.args.id.now; event = c.args.event } in
    known_answered c.append_kept.result g.M.Records.ALL c.args.self.now.site asked c.args.text.now.items c.append_kept.new.out.items
    c.args.entries.now.items c.append_kept.ensures
