use Rattle.std.proofs.Common.{arith}
use Rattle.std.proofs.lemmas.List.{get_or-set_same}
use Rattle.rb_inbox.proofs.Waiting.{not_within_blue, not_within_red}
use Rattle.rb_inbox.proofs.quiet.lower.Goals as goal

pub returns-in-Some-clause-waits : goal.returns-in-Some-clause-waits
returns-in-Some-clause-waits c =
    let there = get_or-set_same c.args.quiet.now.blue c.in-Some.site c.min.result 0 (omega arith) in
    not_within_blue c.args.past.now _ c.in-Some.site (omega arith) (grind (arith, there))

pub returns-then-past-clock-clause-waits : goal.returns-then-past-clock-clause-waits
returns-then-past-clock-clause-waits c = not_within_red c.args.past.now _ (omega arith) (omega arith)
