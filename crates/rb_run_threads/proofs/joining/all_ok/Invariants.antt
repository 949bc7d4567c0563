use Rattle.std.proofs.Common.{◌≡◌, ◌≤◌, ◌+◌, ◌++◌, map, vec_len, Ok, length}
use Rattle.std.specs.Vec.{vec_capacity}
use Rattle.std.specs.Vec.Iter.{into_iter_items}
use Rattle.rb_run_threads.proofs.joining.all_ok.Given as goal

abbrev pub invariant-loop-outcome : goal.invariant-loop-outcome
invariant-loop-outcome g l =
    (goal.iterator-loop-outcome g).can_next l.outcome-iterator
    × (goal.iterator-loop-outcome g).is_finite l.outcome-iterator
    × (map Ok l.seats.items ++ into_iter_items l.outcome-iterator ≡ l.fn.results.items)
    × (vec_len l.fn.results ≤ vec_capacity l.seats)
    × (vec_len l.seats + length (into_iter_items l.outcome-iterator) ≡ vec_len l.fn.results)
