use Rattle.std.proofs.Common.{map, ap, ◌∙◌}
use Rattle.rb_node.specs.Kept.{entry_erased, by_bytes, find_request}
use Rattle.rb_node.proofs.Requests.{found, have_ids, known_found}
use Rattle.rb_node.proofs.asked_site.AskedSite.known.Goals as goal

pub returns : goal.returns
returns c =
    let items = c.self.inside.asked.items in
    let es = c.self.inside.by_id.entries in
    known_found c.self.inside.site (map entry_erased items) (by_bytes es) c.args.self.now c.args.id.now c.get.result
    (have_ids items) c.self.invariant.0 c.self.view_is
    (c.get.ensures.value ∙ found c.as_bytes-2.result.now es ∙ ap (λ id. find_request id (by_bytes es)) c.as_bytes-2.ensures.same)
