-- One operation more, of which little is kept.
use Rattle.std.proofs.Common.{◌∙◌, ◌++◌, ◌∷◌, [], ap, arith, length}
use Rattle.std.proofs.lemmas.List.{length_push}
use Rattle.rb_site.specs.declared.message.Message.TheVariants.{Shadow as ShadowMessage}
use Rattle.rb_auditor.specs.MessageLists.{MessageTable}
use Rattle.rb_auditor.proofs.Found
use Rattle.rb_auditor.proofs.Positions
use Rattle.rb_auditor.proofs.message_list.MessageList.push_compact.Goals as goal

pub invariant_of-self : goal.invariant_of-self
invariant_of-self c =
    let us = c.self.inside.compact.items in
    let os = c.self.inside.others.items in
    let ps = c.self.inside.positions.items in
    let longer = ap length c.push.ensures.items ∙ length_push us c.args.shadow.now in
    let more = ap length c.push_reserved.ensures.items ∙ length_push ps _ in
    let few = Positions.many_positions us os ps c.self.view_is c.self.invariant.each in
    let room = ap (λ (t : MessageTable). t.limit) c.self.view_is in
    record {
      each = Found.there _ _ _ (Positions.compact_pushed us _ os ps _ c.args.shadow.now _ c.push.ensures.items
          c.push_reserved.ensures.items c.len-at.ensures c.self.invariant.each);
      whole = omega (arith, c.self.invariant.whole, longer, more);
      within = omega (arith, c.requires.room, few, room, more);
      few = c.self.invariant.few;
      compact_fit = omega (arith, c.self.invariant.compact_fit, c.push.ensures.limit);
      others_fit = c.self.invariant.others_fit;
      positions_fit = omega (arith, c.self.invariant.positions_fit, c.push_reserved.ensures.capacity);
    }

pub returns-clause-items : goal.returns-clause-items
returns-clause-items c =
    let us = c.self.inside.compact.items in
    let os = c.self.inside.others.items in
    let ps = c.self.inside.positions.items in
    Found.is _ _ _ (Positions.compact_pushed us _ os ps _ c.args.shadow.now _ c.push.ensures.items
    c.push_reserved.ensures.items c.len-at.ensures c.self.invariant.each)
    ∙ ap (λ (t : MessageTable). t.items ++ ShadowMessage c.args.shadow.now ∷ []) c.self.view_is
