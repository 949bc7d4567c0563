use Rattle.rb_run_threads.proofs.Telling.{IsTellerSoFar}
use Rattle.rb_run_threads.proofs.teller.make_calls.Given as goal

abbrev pub invariant-loop-i : goal.invariant-loop-i
invariant-loop-i g l = IsTellerSoFar l.first l.site l.sites l.seat l.x l.last l._i
