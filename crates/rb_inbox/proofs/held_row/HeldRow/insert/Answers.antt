use Rattle.std.proofs.Common.{◌+◌, ◌-◌, ◌∙◌, List, ap, arith, drop, set}
use Rattle.std.specs.Prelude.{insert}
use Rattle.rb_shadow.specs.declared.shadow.Shadow.{Shadow}
use Rattle.rb_inbox.proofs.Slots.{insert_behind, insert_left}
use Rattle.rb_inbox.proofs.held_row.HeldRow.insert.Goals as goal

pub returns-then-index-len-clause-ok : goal.returns-then-index-len-clause-ok
returns-then-index-len-clause-ok c =
    let us = c.self.inside.slots.items in
    let free = c.self.inside.free in
    let last = free + c.args.index - 1 in
    let v = c.args.shadow.now in
    ap (λ (ws : List Shadow). drop (free - 1) (set ws last v)) c.copy_within.ensures.items
    ∙ insert_left us (free - 1) free _ last v (omega arith) (omega arith) (omega arith)
    ∙ ap (λ i. insert (drop free us) i v) {y = c.args.index} (omega arith)
    ∙ ap (λ (ws : List Shadow). insert ws c.args.index v) (c.self.view_is ∙ c.make_room.ensures)

pub returns-clause-ok : goal.returns-clause-ok
returns-clause-ok c =
    let free = c.self.inside.free in
    let v = c.args.shadow.now in
    ap (drop free) c.in_ok-insert.ensures.items
    ∙ insert_behind c.self.inside.slots.items free c.args.index _ v (omega arith) c.self.invariant
    ∙ ap (λ (ws : List Shadow). insert ws c.args.index v) (c.self.view_is ∙ c.make_room.ensures)
