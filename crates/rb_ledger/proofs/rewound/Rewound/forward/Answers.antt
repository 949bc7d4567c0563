use Rattle.std.proofs.Common.{arith}
use Rattle.rb_ledger.proofs.Lengths
use Rattle.rb_ledger.proofs.rewound.Rewound.forward.Goals as goal

pub overflow_cast-count : goal.overflow_cast-count
overflow_cast-count c = omega (
  arith,
  c.len-count.ensures,
  Lengths.valid_length _ _ c.rewound.invariant.at.index.clocked.configured
      c.rewound.invariant.at.valid,
)
