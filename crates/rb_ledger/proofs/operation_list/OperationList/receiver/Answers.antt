use Rattle.rb_ledger.proofs.Words.{ap, ◌∙◌, ◌<◌, arith, get_or, length, receiver_of, OperationTable}
use Rattle.rb_ledger.proofs.OperationTables
use Rattle.rb_ledger.proofs.operation_list.OperationList.receiver.Goals as goal

pub index-requires : goal.index-requires
index-requires c = omega (
  arith,
  c.requires,
  c.self.inside.kept.ok.0,
  OperationTables.as_many c.self.inside.clocks.sites c.self.inside.kept.items c.self.inside.clocks.items,
  ap (λ (t : OperationTable). length t.items) c.self.view_is,
)

pub returns : goal.returns
returns c = λ d.
    let near : c.args.index < length c.self.inside.kept.items = omega (
      arith,
      c.requires,
      OperationTables.as_many c.self.inside.clocks.sites c.self.inside.kept.items c.self.inside.clocks.items,
      ap (λ (t : OperationTable). length t.items) c.self.view_is,
    ) in
    c.receiver.ensures
    ∙ ap receiver_of (OperationTables.kind_at c.self.inside.clocks.sites _ c.self.inside.clocks.items _ _ d near c.index.ensures
    ∙ ap (λ (t : OperationTable). (get_or t.items c.args.index d).kind) c.self.view_is)
