use Rattle.std.proofs.Common.{◌∙◌, ◌+◌, ap, arith, drop}
use Rattle.std.specs.Prelude.{remove}
use Rattle.rb_inbox.proofs.Slots.{remove_behind, remove_right}
use Rattle.rb_inbox.proofs.held_row.HeldRow.remove.Goals as goal

pub returns-then-index-len : goal.returns-then-index-len
returns-then-index-len c =
    ap (drop (c.self.inside.free + 1)) c.copy_within.ensures.items
    ∙ remove_right c.self.inside.slots.items c.self.inside.free _ (omega arith)
    ∙ ap (remove (drop c.self.inside.free c.self.inside.slots.items)) {y = c.args.index} (omega arith)
    ∙ ap (λ us. remove us c.args.index) c.self.view_is

pub returns-else-index-len : goal.returns-else-index-len
returns-else-index-len c =
    ap (drop c.self.inside.free) c.remove.ensures.items
    ∙ remove_behind c.self.inside.slots.items c.self.inside.free c.args.index _ (omega arith) c.self.invariant
    ∙ ap (λ us. remove us c.args.index) c.self.view_is
