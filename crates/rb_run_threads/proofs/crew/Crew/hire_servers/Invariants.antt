use Rattle.std.proofs.Common.{◌≡◌, ◌≤◌, ◌+◌, ℕ, Some, vec_len}
use Rattle.std.specs.Prelude.{slice_get}
use Rattle.std.specs.Vec.{vec_capacity}
use Rattle.rb_run_threads.proofs.crew.Crew.hire_servers.Given as goal

abbrev pub invariant-loop-site : goal.invariant-loop-site
invariant-loop-site g l =
    (vec_len l.handles ≡ l.site)
    × (l.self.sites ≤ vec_capacity l.handles)
    × (vec_len l.inlets + l.site ≡ l.self.sites)
    × ((k : ℕ) (h : _) → slice_get l.handles.items k ≡ Some h → h.promise ≡ record { site = k })
