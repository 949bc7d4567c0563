use Rattle.std.proofs.Common.{refl, arith}
use Rattle.rb_ledger.proofs.ledger.Ledger.balance_on.Goals as goal

pub unreachable-requires : goal.unreachable-requires
unreachable-requires c = omega (arith, c.requires, c.in-None.ensures.absent.0 refl)
