use Rattle.std.proofs.Common.{map, ap, sym, ◌∙◌, rules}
use Rattle.std.specs.Prelude.{nat_lt}
use Rattle.std.proofs.lemmas.List.Sorted.{IsPartitionPoint-from_clause}
use Rattle.rb_node.specs.Asked.{SeenAsked, without_ids}
use Rattle.rb_node.specs.Kept.{entry_erased, by_bytes}
use Rattle.rb_node.specs.declared.sent_entry.SentEntry.{SentEntry}
use Rattle.rb_node.proofs.SentAgain.{since_part}
use Rattle.rb_node.proofs.Ascending.{index_parted}
use Rattle.rb_node.proofs.Requests.{same_site}
use Rattle.rb_node.proofs.asked_site.AskedSite.sent_since.Goals as goal

pub returns : goal.returns
returns c =
    let index = c.as_slice-index.result.now in
    let skipped = c.partition_point-skipped.result in
    let is = c.as_slice-index.ensures.value ∙ c.self.invariant.1 in
    let point = IsPartitionPoint-from_clause (λ (y : SentEntry). nat_lt y.before c.args.before) index skipped
    c.partition_point-skipped.ensures.partitioned (index_parted c.self.inside.site c.args.before index is) (λ a r q k. search rules) in
    let at = sym (same_site c.self.inside.site (map entry_erased c.self.inside.asked.items) (by_bytes c.self.inside.by_id.entries)
    c.self.invariant.0) ∙ ap (λ (v : SeenAsked). without_ids v) c.self.view_is in
    let since = since_part c.self.inside.site (without_ids c.args.self.now) c.args.before skipped index is at point.0 point.1 in
    record { lines = since.lines c.args.self.now.bank; count = since.count }
