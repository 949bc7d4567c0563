use Rattle.std.proofs.Common.{arith}
use Rattle.rb_ledger.proofs.LinkTables
use Rattle.rb_ledger.proofs.link_list.LinkList.pop.Goals as goal

pub invariant_of-self : goal.invariant_of-self
invariant_of-self c =
    let (x, left, rest) = LinkTables.popped_two _ _ _ _ _ _ _ c.self.invariant.numbered c.in-Some.ensures.items c.if-last-gt0.true
    c.self.inside.second.ok.0 c.pop-then-last-gt0.ensures.items c.pop-then-last-gt0.ensures.value in
    record {
      numbered = rest;
      own = omega (arith, c.self.invariant.own, c.pop.ensures.capacity);
      second = omega (arith, c.self.invariant.second, c.pop-then-last-gt0.ensures.capacity);
    }

pub invariant_of-self-else-last-gt0 : goal.invariant_of-self-else-last-gt0
invariant_of-self-else-last-gt0 c = record {
  numbered = LinkTables.popped_one _ _ _ _ c.self.invariant.numbered c.in-Some.ensures.items (omega (arith, c.if-last-gt0.false));
  own = omega (arith, c.self.invariant.own, c.pop.ensures.capacity);
  second = c.self.invariant.second;
}

pub returns-then-last-gt0-clause-cancelled : goal.returns-then-last-gt0-clause-cancelled
returns-then-last-gt0-clause-cancelled c = LinkTables.front_marks _ _ _ _ _ _ c.in-Some.ensures.items c.self.view_is

pub returns-else-last-gt0-clause-cancelled : goal.returns-else-last-gt0-clause-cancelled
returns-else-last-gt0-clause-cancelled c = LinkTables.front_marks _ _ _ _ _ _ c.in-Some.ensures.items c.self.view_is

pub returns-then-last-gt0-clause-items : goal.returns-then-last-gt0-clause-items
returns-then-last-gt0-clause-items c = LinkTables.seen_popped _ _ _ _ _ _ _ _ _ c.self.invariant.numbered c.self.view_is
    c.in-Some.ensures.items c.if-last-gt0.true c.self.inside.second.ok.0 c.pop-then-last-gt0.ensures.items
    c.pop-then-last-gt0.ensures.value
