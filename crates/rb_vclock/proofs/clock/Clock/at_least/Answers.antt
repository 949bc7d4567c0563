use Rattle.std.proofs.Common.{rules}
use Rattle.rb_vclock.proofs.Entries.{by_names}
use Rattle.rb_vclock.proofs.clock.Clock.at_least.Goals as goal

pub returns-then-are_at_least-clause-names : goal.returns-then-are_at_least-clause-names
returns-then-are_at_least-clause-names c = by_names _ c.args.self.now c.args.deps.now (search rules)

pub returns-else-are_at_least-clause-names : goal.returns-else-are_at_least-clause-names
returns-else-are_at_least-clause-names c = by_names _ c.args.self.now c.args.deps.now (search rules)
