use Rattle.std.proofs.Common.{◌≡◌, ℕ, ◌-◌, ◌≤◌, ◌++◌, List, length, take}
use Rattle.rb_journal.specs.Host.{Outputs, LeavesOnly}
use Rattle.rb_journal.proofs.journal.put_out_all.Given as goal

abbrev pub invariant-loop-done : goal.invariant-loop-done
invariant-loop-done g l = record {
  within : l.done ≤ length l.bytes;
  usable : g.H.Host.is_usable l.host;
  output : g.H.Host.output l.host ≡ g.H.Host.output l.initial.host ++ take l.done l.bytes;
  content : g.H.Host.content l.host ≡ g.H.Host.content l.initial.host;
  crash : (c : List ℕ) → g.H.Host.may_leave l.host c → g.H.Host.may_leave l.initial.host c;
  any_moment : LeavesOnly g.H.Host.moment g.H.Host.left_since l.initial.host l.host
      (Outputs (g.H.Host.may_leave l.initial.host) (g.H.Host.output l.initial.host) l.bytes);
  later : g.H.Host.faults l.initial.host ≤ g.H.Host.faults l.host;
}

abbrev pub decreases-loop-done : goal.decreases-loop-done
decreases-loop-done g l = length l.bytes - l.done
