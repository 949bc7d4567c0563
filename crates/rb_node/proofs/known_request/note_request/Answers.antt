use Rattle.std.proofs.Common.{◌≡◌, ◌≤◌, ℕ, sym, ◌∙◌}
use Rattle.std.specs.Prelude.{None}
use Rattle.std.specs.declared.alloc.Global.{Global}
use Rattle.std.specs.declared.vec.Vec.{Vec}
use Rattle.indexmap.specs.IndexMap.{spare}
use Rattle.rb_site.specs.declared.event.Event.{Event}
use Rattle.rb_node.specs.Kept.{by_bytes, find_request}
use Rattle.indexmap.proofs.CallerLemmas.{insert_entry-new}
use Rattle.rb_node.proofs.Requests.{found, of_copies, one_noted, where_ok}
use Rattle.rb_node.proofs.known_request.note_request.Goals as goal

pub returns-then-may_be_kept : goal.returns-then-may_be_kept
returns-then-may_be_kept c =
    let p : Vec ℕ Global × Event = (c.in-Some.id, c.in-Some.event) in
    let map = c.args.by_id.now in
    one_noted c.args.copies p c.args.reply.now c.args.first c.args.end map.entries c.insert-before.new.self.entries c.in-Some.is
    (sym c.may_be_kept.ensures ∙ c.if-may_be_kept.true)
    (where_ok c.insert-before.result (c.insert-before.ensures.succeeds (of_copies (λ _. 1 ≤ spare map) c.args.copies p
    c.in-Some.is c.requires.capacity))
    c.insert-before.ensures.entries ∙ insert_entry-new _ map c.in-Some.id _
    (found c.in-Some.id.items map.entries ∙ of_copies (λ q. find_request q.0.items (by_bytes map.entries) ≡ None)
    c.args.copies p c.in-Some.is c.requires.new))
