use Rattle.rb_ledger.proofs.Public.Legal
use Rattle.rb_ledger.proofs.ledger.Ledger.would_overdraw.Goals as goal

pub overdraws-requires-clause-target : goal.overdraws-requires-clause-target
overdraws-requires-clause-target c = Legal.target_for_money c.args.self.now.settings c.args.self.now.entries c.args.shadow.now c.requires
