use Rattle.rb_ledger.proofs.Cursors
use Rattle.rb_ledger.proofs.rewound.Rewound.new.Goals as goal

pub invariant_of-result : goal.invariant_of-result
invariant_of-result c = record {
  at = Cursors.whole _ _ _ _ _ c.args.log c.args.ledger _ c.ledger.invariant.index c.ledger.invariant.links c.ledger.view_is c.requires
      c.len-at.ensures.same;
  cancelled = c.ledger.invariant.cancelled;
  checkpoints = c.ledger.invariant.checkpoints;
  sites = c.ledger.invariant.sites;
  room = c.ledger.invariant.room;
}
