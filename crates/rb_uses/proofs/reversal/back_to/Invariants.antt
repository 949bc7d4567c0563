-- The first operations and records are still there, and the records are those of the operations.
use Rattle.std.proofs.Common.{◌≡◌, length, take}
use Rattle.rb_ledger.specs.Records.{records_of}
use Rattle.rb_uses.proofs.reversal.back_to.Given as goal

abbrev pub invariant-last : goal.invariant-last
invariant-last l = record {
  settings : l.ledger.settings ≡ l.initial.ledger.settings;
  entries : take l.position l.ledger.entries ≡ take l.position l.initial.ledger.entries;
  log : take l.position l.log.parts ≡ take l.position l.initial.log.parts;
  records : l.log.parts ≡ records_of l.ledger.settings l.ledger.entries;
}

abbrev pub decreases-last : goal.decreases-last
decreases-last l = length l.ledger.entries
