-- The log has the ledger's records, of which fewer are left each time.
use Rattle.std.proofs.Common.{◌≡◌, length}
use Rattle.rb_ledger.specs.Records.{records_of}
use Rattle.rb_tests.proofs.worlds.undo_all.Given as goal

abbrev pub decreases-undos : goal.decreases-undos
decreases-undos l = length l.log.parts

abbrev pub invariant-undos : goal.invariant-undos
invariant-undos l = l.log.parts ≡ records_of l.ledger.settings l.ledger.entries
