use Rattle.rb_ledger.proofs.Words.{refl, take, ap, ◌∙◌, slice_get_read, bal, Rewinding}
use Rattle.rb_ledger.proofs.HeadReads
use Rattle.rb_ledger.proofs.ReadItems
use Rattle.rb_ledger.proofs.rewound.Rewound.balance.Goals as goal

pub returns-clause-bounded : goal.returns-clause-bounded
returns-clause-bounded c =
    let index = c.self.invariant.at.index in
    HeadReads.head_small _ _ _ _ c.args.place _ index.clocked index.heads
    (ReadItems.read_at _ _ _ _ _ c.deref.ensures.value c.from.ensures (slice_get_read _ _ _ _ refl c.in_ok-head.ensures.lookup.3.0
    c.in_ok-head.ensures.lookup.1))

pub returns-clause-sum : goal.returns-clause-sum
returns-clause-sum c =
    (c.self.invariant.at.index.heads.each c.args.place _
    (ReadItems.read_at _ _ _ _ _ c.deref.ensures.value c.from.ensures (slice_get_read _ _ _ _ refl c.in_ok-head.ensures.lookup.3.0
    c.in_ok-head.ensures.lookup.1))).balance
    ∙ ap (λ (w : Rewinding). bal w.ledger.settings (take w.at w.ledger.entries) c.args.place) c.self.view_is
