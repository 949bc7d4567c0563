use Rattle.std.proofs.Common.{◌-◌, ap, arith, length-take-le, sym, ◌∙◌, length, take}
use Rattle.rb_ledger.specs.OperationLists.{OperationTable, clock_count, operations_of}
use Rattle.rb_ledger.proofs.OperationTables
use Rattle.rb_ledger.proofs.operation_list.OperationList.pop.Goals as goal

pub invariant_of-self : goal.invariant_of-self
invariant_of-self c =
    let (b, is) = OperationTables.popped_kept c.pop.result _ _ c.pop.ensures.items (sym c.if-is_some.true ∙ c.is_some.ensures) in
    let fewer = OperationTables.popped_count _ _ b is c.self.invariant.order in
    let kept = c.kept_clocks.ensures ∙ ap (clock_count 0) c.deref.ensures.value in
    record {
      clocks = ap length c.truncate.ensures.items ∙ length-take-le _ c.self.inside.clocks.items
          (omega (arith, kept, fewer, c.self.invariant.clocks)) ∙ kept;
      order = OperationTables.popped_order _ _ b is c.self.invariant.order;
      operations_fit = omega (arith, c.self.invariant.operations_fit, c.pop.ensures.capacity);
      clocks_fit = omega (arith, c.self.invariant.clocks_fit, c.truncate.ensures.limit);
    }

pub returns-then-is_some-clause-items : goal.returns-then-is_some-clause-items
returns-then-is_some-clause-items c =
    let w = c.self.inside.clocks.sites in
    let (b, is) = OperationTables.popped_kept c.pop.result _ _ c.pop.ensures.items (sym c.if-is_some.true ∙ c.is_some.ensures) in
    ap (λ k. operations_of k c.pop.new.self.items c.truncate.new.self.items) c.truncate.ensures.sites
    ∙ OperationTables.popped w _ _ c.self.inside.clocks.items _ b is c.self.invariant.order c.self.invariant.clocks
    (c.truncate.ensures.items
    ∙ ap (λ n. take n c.self.inside.clocks.items) (c.kept_clocks.ensures ∙ ap (clock_count 0) c.deref.ensures.value))
    ∙ ap (λ (t : OperationTable). take (length t.items - 1) t.items) c.self.view_is
