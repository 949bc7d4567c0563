use Rattle.rb_money.proofs.Seen.{HasSeen}
use Rattle.rb_money.proofs.checks.count_distinct.Given as goal

abbrev pub invariant-loop-i : goal.invariant-loop-i
invariant-loop-i l = HasSeen l.seen l.i l.accounts
