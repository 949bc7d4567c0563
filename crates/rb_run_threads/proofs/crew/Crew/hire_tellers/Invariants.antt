use Rattle.std.proofs.Common.{◌≡◌, ◌≤◌, ◌+◌, ◌%◌, ℕ, Some, vec_len}
use Rattle.std.specs.Prelude.{slice_get}
use Rattle.std.specs.Vec.{vec_capacity}
use Rattle.rb_run_threads.proofs.crew.Crew.hire_tellers.Given as goal

abbrev pub invariant-loop-t : goal.invariant-loop-t
invariant-loop-t g l =
    (vec_len l.handles ≡ l.t)
    × (l.tellers ≤ vec_capacity l.handles)
    × ((i : ℕ) (h : _) → slice_get l.handles.items i ≡ Some h
    → h.promise ≡ record { first = l.seed + i; site = i % l.self.sites; sites = l.self.sites })
