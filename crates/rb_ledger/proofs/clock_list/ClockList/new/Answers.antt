use Rattle.std.proofs.Common.{◌≡◌, ◌+◌, ◌*◌, ap, sym, ◌∙◌, arith, length}
use Rattle.rb_ledger.proofs.ClockTables
use Rattle.rb_ledger.proofs.clock_list.ClockList.new.Goals as goal

pub invariant_of-result : goal.invariant_of-result
invariant_of-result c =
    let none : 0 ≡ 0 * (c.max.result + 1) = omega arith in
    record {
      least = omega (arith, c.max.ensures);
      most = omega (arith, c.max.ensures, c.from.ensures, c.requires);
      steps = ap length c.new-3.ensures.items ∙ none
          ∙ sym (ap (λ os. length os * (c.max.result + 1)) c.new-2.ensures.items);
      few = omega (arith, ap length c.new.ensures.items);
      based = ClockTables.none_based _ _ c.new-2.result.items c.new-2.ensures.items;
      bases_fit = omega arith;
      starts_fit = omega arith;
      steps_fit = omega arith;
    }
