use Rattle.std.proofs.Common.{◌≡◌, ◌≤◌, ◌+◌, ◌++◌, vec_len, length}
use Rattle.std.specs.Vec.{vec_capacity}
use Rattle.std.specs.Vec.Iter.{into_iter_items}
use Rattle.rb_run_threads.proofs.joining.together.Given as goal

abbrev pub invariant-loop-seat : goal.invariant-loop-seat
invariant-loop-seat g l =
    (goal.iterator-loop-seat g).can_next l.seat-iterator
    × (goal.iterator-loop-seat g).is_finite l.seat-iterator
    × (l.tellers.items ++ into_iter_items l.seat-iterator ≡ l.fn.tellers.items ++ l.fn.servers.items)
    × (vec_len l.tellers + length (into_iter_items l.seat-iterator) ≤ vec_capacity l.tellers)
