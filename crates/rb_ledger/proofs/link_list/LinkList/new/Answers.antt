use Rattle.std.proofs.Common.{arith}
use Rattle.rb_ledger.proofs.LinkTables
use Rattle.rb_ledger.proofs.link_list.LinkList.new.Goals as goal

pub invariant_of-result : goal.invariant_of-result
invariant_of-result c = record {
  numbered = LinkTables.none_numbered _ _ c.new.ensures.items c.new-2.ensures.items;
  own = omega arith;
  second = omega arith;
}
