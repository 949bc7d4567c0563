use Rattle.std.proofs.Common.{◌≡◌, ◌+◌}
use Rattle.rb_ledger.proofs.ledger.Ledger.rewind.Given as goal

abbrev pub invariant-loop : goal.invariant-loop
invariant-loop l = record {
  ledger : l.rewound.ledger ≡ l.fn.self;
  log : l.rewound.log ≡ l.fn.log;
  at : l.rewound.at + l.counter ≡ l.count + l.position;
}
