use Rattle.std.proofs.Common.{inl, inr, ap, arith}
use Rattle.rb_shadow.specs.Operations.{row_of}
use Rattle.rb_inbox.specs.Held.{Holding}
use Rattle.rb_inbox.proofs.First.{held_within, in_row, last_or_before}
use Rattle.rb_inbox.proofs.inbox.Inbox.waiting.Goals as goal

pub loop-index-preserved : goal.loop-index-preserved
loop-index-preserved c =
    let now = c.if-not-add_row.ensures in
    λ u a l. elim (last_or_before (row_of u.name) c.loop-index.index l) [
      | inl e ↦ now.covers u (in_row _ _ _ u c.row.ensures.held a e)
      | inr k ↦ now.keeps u (c.loop-index.invariant u a k)
    ]

pub returns : goal.returns
returns c = λ u a. c.loop-index.invariant u a
    (let within = held_within c.self.inside.rows.items _ u c.self.invariant.each (ap (λ (b : Holding). b.held) c.self.view_is) a in
    omega arith)
