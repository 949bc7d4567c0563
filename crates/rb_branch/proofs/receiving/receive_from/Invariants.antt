use Rattle.std.proofs.Common.{◌-◌, length}
use Rattle.rb_branch.specs.Seats.{RefusesOn}
use Rattle.rb_branch.proofs.Served.{Serves}
use Rattle.rb_branch.proofs.receiving.receive_from.Given as goal

abbrev pub invariant-loop-index : goal.invariant-loop-index
invariant-loop-index g l = record {
  served : Serves g.E.Entries.settings l.initial.seat l.seat l.initial.inlet l.inlet;
  front : RefusesOn l.initial.index l.initial.inlet l.initial.seat l.index l.inlet l.seat;
}

abbrev pub decreases-loop-index : goal.decreases-loop-index
decreases-loop-index g l = length l.inlet - l.index
