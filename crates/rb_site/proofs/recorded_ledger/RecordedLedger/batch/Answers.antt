-- The operations that were tried are named in the answer and sent, and their records are at the log's end.
use Rattle.std.proofs.Common.{rules}
use Rattle.rb_site.proofs.Batches.{recorded_tried}
use Rattle.rb_site.proofs.recorded_ledger.RecordedLedger.batch.Goals as goal

pub invariant_of-self-2 : goal.invariant_of-self-2
invariant_of-self-2 c =
    recorded_tried c.self.invariant c.open-scratch.ensures.ledger c.in_default.ensures.settings c.in_default.ensures.tried
    c.in-Ok-commit.ensures.log (search rules) (search rules)
