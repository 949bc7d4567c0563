use Rattle.rb_branch.specs.Seats.{RefusesOn}
use Rattle.rb_branch.proofs.Served.{Serves}
use Rattle.rb_branch.proofs.branch.Branch.serve_locked.Given as goal

abbrev pub invariant-loop-k : goal.invariant-loop-k
invariant-loop-k g l = record {
  served : Serves g.E.Entries.settings l.initial.seat l.seat l.initial.inlet l.inlet;
  front : RefusesOn l.first l.initial.inlet l.initial.seat l.next l.inlet l.seat;
}
