use Rattle.std.proofs.Common.{◌≡◌, take, drop}
use Rattle.rb_ledger.proofs.operation_list.OperationList.copy_from.Given as goal

-- those so far
abbrev pub invariant-loop-k : goal.invariant-loop-k
invariant-loop-k l = l.shadows.items ≡ take l.k (drop l.first l.self.items)
