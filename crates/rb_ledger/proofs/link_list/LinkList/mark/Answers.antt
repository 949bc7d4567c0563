use Rattle.rb_ledger.proofs.Words.{◌-◌, ◌<◌, length, ap, sym, ◌∙◌, refl, arith, length-map, LinkTable, both_links}
use Rattle.rb_ledger.proofs.Words.{marked_at}
use Rattle.rb_ledger.proofs.LinkTables
use Rattle.rb_ledger.proofs.ReadItems
use Rattle.rb_ledger.proofs.link_list.LinkList.mark.Goals as goal

pub returns-then-position-eq0-clause-cancelled : goal.returns-then-position-eq0-clause-cancelled
returns-then-position-eq0-clause-cancelled c = sym (ap (λ n. marked_at n c.args.cancelled c.args.self.now.cancelled)
    c.if-position-eq0.true)

pub index-old-requires : goal.index-old-requires
index-old-requires c = omega (
  arith,
  c.requires,
  ReadItems.positive c.args.position c.if-position-eq0.false,
  c.self.inside.own.ok.0,
  length-map c.self.inside.own.items (both_links c.self.inside.second.items),
  ap (λ (t : LinkTable). length t.items) c.self.view_is,
)

pub invariant_of-self : goal.invariant_of-self
invariant_of-self c =
    let near : c.args.position - 1 < length c.self.inside.own.items = omega (
      arith,
      c.requires,
      ReadItems.positive c.args.position c.if-position-eq0.false,
      length-map c.self.inside.own.items (both_links c.self.inside.second.items),
      ap (λ (t : LinkTable). length t.items) c.self.view_is,
    ) in
    record {
      numbered = LinkTables.numbered_marked 0 _ _ _ c.index-old.result.now c.args.cancelled c.self.invariant.numbered near
          c.index-old.ensures;
      own = c.self.invariant.own;
      second = c.self.invariant.second;
    }

pub returns-clause-items : goal.returns-clause-items
returns-clause-items c = LinkTables.links_marked _ _ _ c.index-old.result.now c.args.cancelled c.index-old.ensures
    ∙ ap (λ (t : LinkTable). t.items) c.self.view_is

pub returns-clause-cancelled : goal.returns-clause-cancelled
returns-clause-cancelled c = LinkTables.marks_marked _ c.args.position _ c.index-old.result.now c.args.cancelled
    (ReadItems.positive c.args.position c.if-position-eq0.false) refl
    ∙ ap (λ (t : LinkTable). marked_at c.args.position c.args.cancelled t.cancelled) c.self.view_is
