use Rattle.rb_ledger.proofs.Words.{ap, arith, length, OperationTable}
use Rattle.rb_ledger.proofs.OperationTables
use Rattle.rb_ledger.proofs.operation_list.OperationList.len.Goals as goal

pub returns : goal.returns
returns c = omega (
  arith,
  c.len.ensures,
  c.self.inside.kept.ok.0,
  OperationTables.as_many c.self.inside.clocks.sites c.self.inside.kept.items c.self.inside.clocks.items,
  ap (λ (t : OperationTable). length t.items) c.self.view_is,
)
