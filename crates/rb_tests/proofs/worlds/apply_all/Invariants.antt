-- So far the log has the ledger's records.
use Rattle.std.proofs.Common.{◌≡◌}
use Rattle.rb_ledger.specs.Records.{records_of}
use Rattle.rb_tests.proofs.worlds.apply_all.Given as goal

abbrev pub invariant-shadows : goal.invariant-shadows
invariant-shadows l = l.log.parts ≡ records_of l.ledger.settings l.ledger.entries
