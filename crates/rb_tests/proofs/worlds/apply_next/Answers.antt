-- The record of the new operation is the last.
use Rattle.rb_ledger.proofs.Public.Records
use Rattle.rb_tests.proofs.worlds.apply_next.Goals as goal

pub returns : goal.returns
returns c = λ _. Records.records_of-pushed _ _ _ _ _ _ _ _ c.requires c.in-Ok.ensures.applied.1 c.in-Ok.ensures.applied.0
    c.apply.ensures.settings c.in_default-push.ensures.added
