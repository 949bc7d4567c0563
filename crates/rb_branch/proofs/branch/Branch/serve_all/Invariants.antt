use Rattle.rb_branch.specs.Seats.{AreRefused, receipts_since}
use Rattle.rb_branch.proofs.Served.{Serves}
use Rattle.rb_branch.proofs.branch.Branch.serve_all.Given as goal

abbrev pub invariant-loop : goal.invariant-loop
invariant-loop g l = record {
  next : (goal.iterator-loop g).can_next l.iterator';
  finite : (goal.iterator-loop g).is_finite l.iterator';
  served : Serves g.E.Entries.settings l.initial.seat l.seat l.initial.inlet l.inlet;
  front : AreRefused l.first l.inlet (receipts_since l.initial.seat l.seat);
}
