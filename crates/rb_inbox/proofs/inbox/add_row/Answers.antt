use Rattle.std.proofs.Common.{inl, inr, sym, subst, arith}
use Rattle.rb_inbox.specs.Quiet.{IsCovered}
use Rattle.rb_inbox.proofs.First.{next_or_later}
use Rattle.rb_inbox.proofs.Order.{Among-end}
use Rattle.rb_inbox.proofs.inbox.add_row.Goals as goal

pub loop-shadow-preserved : goal.loop-shadow-preserved
loop-shadow-preserved c =
    let now = c.if-not-add.ensures in
    record {
      covers = λ u a. elim (c.loop-shadow.invariant.covers u a) [
        | inl left ↦ elim (next_or_later c.args.row.now c.loop-shadow.shadow-index _ u (omega arith) left) [
          | inl e ↦ inr (subst (IsCovered c.add.new.self) (sym e) now.covers)
          | inr later ↦ inl later
        ]
        | inr h ↦ inr (now.keeps u h)
      ];
      keeps = λ u h. now.keeps u (c.loop-shadow.invariant.keeps u h);
    }

pub returns-clause-covers : goal.returns-clause-covers
returns-clause-covers c = λ u a. elim (c.loop-shadow.invariant.covers u a) [
  | inl left ↦ absurd (Among-end _ c.loop-shadow.shadow-index u (omega arith) left)
  | inr h ↦ h
]
