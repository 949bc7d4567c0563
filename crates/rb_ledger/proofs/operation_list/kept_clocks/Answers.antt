use Rattle.std.proofs.Common.{sym}
use Rattle.rb_ledger.proofs.OperationTables
use Rattle.rb_ledger.proofs.operation_list.kept_clocks.Goals as goal

pub returns-in-Some : goal.returns-in-Some
returns-in-Some c = sym (OperationTables.count_last 0 c.args.kept.now c.in-Some.last.now (sym c.in-Some.ensures.value))
