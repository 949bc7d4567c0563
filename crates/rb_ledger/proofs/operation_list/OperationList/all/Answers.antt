use Rattle.rb_ledger.proofs.Words.{ap, arith, length, take_all, OperationTable}
use Rattle.rb_ledger.proofs.OperationTables
use Rattle.rb_ledger.proofs.operation_list.OperationList.all.Goals as goal

pub invariant_of-result : goal.invariant_of-result
invariant_of-result c = omega (
  arith,
  c.len.ensures,
  c.self.inside.kept.ok.0,
  OperationTables.as_many c.self.inside.clocks.sites c.self.inside.kept.items c.self.inside.clocks.items,
  ap (λ (t : OperationTable). length t.items) c.self.view_is,
)

pub returns : goal.returns
returns c = take_all c.len.result c.args.self.now.items (omega (
  arith,
  c.len.ensures,
  c.self.inside.kept.ok.0,
  OperationTables.as_many c.self.inside.clocks.sites c.self.inside.kept.items c.self.inside.clocks.items,
  ap (λ (t : OperationTable). length t.items) c.self.view_is,
))
