use Rattle.rb_ledger.proofs.Words.{◌∙◌, ap, arith, length, clock_count}
use Rattle.rb_ledger.proofs.OperationTables
use Rattle.rb_ledger.proofs.operation_list.OperationList.new.Goals as goal

pub invariant_of-result : goal.invariant_of-result
invariant_of-result c = record {
  clocks = ap length c.new-2.ensures.items ∙ omega (arith, ap (λ bs. clock_count 0 bs) c.new.ensures.items);
  order = OperationTables.none_in_order c.new.result.items c.new.ensures.items;
  operations_fit = omega arith;
  clocks_fit = omega arith;
}
