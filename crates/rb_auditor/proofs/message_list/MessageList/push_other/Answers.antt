-- One message more, which is kept whole.
use Rattle.std.proofs.Common.{◌∙◌, ◌++◌, ◌∷◌, [], ap, arith, length}
use Rattle.rb_auditor.specs.MessageLists.{MessageTable}
use Rattle.std.proofs.lemmas.List.{length_push}
use Rattle.rb_auditor.proofs.Found
use Rattle.rb_auditor.proofs.Positions
use Rattle.rb_auditor.proofs.message_list.MessageList.push_other.Goals as goal

pub invariant_of-self : goal.invariant_of-self
invariant_of-self c =
    let us = c.self.inside.compact.items in
    let os = c.self.inside.others.items in
    let ps = c.self.inside.positions.items in
    let longer = ap length c.push_reserved.ensures.items ∙ length_push os c.args.message.now in
    let more = ap length c.push_reserved-2.ensures.items ∙ length_push ps _ in
    let few = Positions.many_positions us os ps c.self.view_is c.self.invariant.each in
    let room = ap (λ (t : MessageTable). t.limit) c.self.view_is in
    record {
      each = Found.there _ _ _ (Positions.other_pushed us os _ ps _ c.args.message.now _ c.push_reserved.ensures.items
          c.push_reserved-2.ensures.items (c.len-at.ensures ∙ c.self.inside.others.ok.0) c.self.invariant.each);
      whole = omega (arith, c.self.invariant.whole, longer, more);
      within = omega (arith, c.requires, few, room, more);
      few = c.self.invariant.few;
      compact_fit = c.self.invariant.compact_fit;
      others_fit = omega (arith, c.self.invariant.others_fit, c.push_reserved.ensures.capacity);
      positions_fit = omega (arith, c.self.invariant.positions_fit, c.push_reserved-2.ensures.capacity);
    }

pub returns-clause-items : goal.returns-clause-items
returns-clause-items c =
    let us = c.self.inside.compact.items in
    let os = c.self.inside.others.items in
    let ps = c.self.inside.positions.items in
    Found.is _ _ _ (Positions.other_pushed us os _ ps _ c.args.message.now _ c.push_reserved.ensures.items
    c.push_reserved-2.ensures.items (c.len-at.ensures ∙ c.self.inside.others.ok.0) c.self.invariant.each)
    ∙ ap (λ (t : MessageTable). t.items ++ c.args.message.now ∷ []) c.self.view_is
