use Rattle.std.proofs.Common.{◌≡◌}
use Rattle.rb_ledger.proofs.rewound.Rewound.forward.Given as goal

abbrev pub invariant-loop : goal.invariant-loop
invariant-loop l = record {
  ledger : l.rewound.ledger ≡ l.initial.rewound.ledger;
  log : l.rewound.log ≡ l.initial.rewound.log;
  at : l.rewound.at ≡ l.counter;
}
