use Rattle.std.proofs.Common.{refl}
use Rattle.rb_journal.proofs.Intact.{by_first}
use Rattle.rb_journal.proofs.journal.may_be_behind.Goals as goal

pub returns-in-32 : goal.returns-in-32
returns-in-32 c = (λ _. by_first c.args.rest.now c.requires c.in-32.is, λ _. refl)
