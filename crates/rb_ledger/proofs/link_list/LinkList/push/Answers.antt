use Rattle.rb_ledger.proofs.Words.{false, ap, ◌∙◌, ◌++◌, ◌∷◌, [], arith, OwnLink, LinkTable, both_links}
use Rattle.rb_ledger.proofs.LinkTables
use Rattle.rb_ledger.proofs.link_list.LinkList.push.Goals as goal

pub invariant_of-self : goal.invariant_of-self
invariant_of-self c = record {
  numbered = LinkTables.pushed_without _ _ _ _ c.self.invariant.numbered c.push_reserved.ensures.items
      (ap (λ (o : OwnLink). o.second) c.new.ensures);
  own = omega (arith, c.self.invariant.own, c.push_reserved.ensures.capacity);
  second = c.self.invariant.second;
}

pub returns-then-eq-clause-cancelled : goal.returns-then-eq-clause-cancelled
returns-then-eq-clause-cancelled c = LinkTables.marks_pushed _ _ _ c.push_reserved.ensures.items
    (ap (λ (o : OwnLink). o.cancelled) c.new.ensures) ∙ ap (λ (t : LinkTable). t.cancelled ++ false ∷ []) c.self.view_is

pub returns-clause-cancelled : goal.returns-clause-cancelled
returns-clause-cancelled c = LinkTables.marks_pushed _ _ _ c.push_reserved-3.ensures.items
    (ap (λ (o : OwnLink). o.cancelled) c.new-2.ensures) ∙ ap (λ (t : LinkTable). t.cancelled ++ false ∷ []) c.self.view_is

pub push_reserved-requires-2 : goal.push_reserved-requires-2
push_reserved-requires-2 c = omega (
  arith,
  c.self.inside.second.ok.0,
  LinkTables.few_seen _ _ _ _ c.self.invariant.numbered c.self.view_is,
  c.requires.room,
  ap (λ (t : LinkTable). t.limit) c.self.view_is,
  c.self.invariant.second,
)

pub overflow_cast-second : goal.overflow_cast-second
overflow_cast-second c = omega (
  arith,
  c.self.inside.second.ok.0,
  LinkTables.few_seen _ _ _ _ c.self.invariant.numbered c.self.view_is,
  c.requires.few,
  c.push_reserved-2.ensures.len,
  c.len-second.ensures,
)

pub invariant_of-self-2 : goal.invariant_of-self-2
invariant_of-self-2 c = record {
  numbered = LinkTables.pushed_with _ _ _ _ _ _ c.self.invariant.numbered c.push_reserved-3.ensures.items c.push_reserved-2.ensures.items
      (ap (λ (o : OwnLink). o.second) c.new-2.ensures
      ∙ omega (arith, c.len-second.ensures, c.push_reserved-2.ensures.len, c.self.inside.second.ok.0));
  own = omega (arith, c.self.invariant.own, c.push_reserved-3.ensures.capacity);
  second = omega (arith, c.self.invariant.second, c.push_reserved-2.ensures.capacity);
}

pub returns-clause-items : goal.returns-clause-items
returns-clause-items c = LinkTables.pushed_two _ _ _ _ _ _ c.args.links.now c.self.invariant.numbered c.push_reserved-3.ensures.items
    c.push_reserved-2.ensures.items
    (ap (both_links c.push_reserved-2.new.self.items) c.new-2.ensures
    ∙ LinkTables.both_pushed _ _ c.args.links.now _ c.push_reserved-2.ensures.items
    (omega (arith, c.len-second.ensures, c.push_reserved-2.ensures.len, c.self.inside.second.ok.0)))
    ∙ ap (λ (t : LinkTable). t.items ++ c.args.links.now ∷ []) c.self.view_is
