-- So far the messages below the place are added.
use Rattle.std.proofs.Common.{◌≡◌, ◌++◌, ◌+◌, ◌-◌, ◌≤◌, Some, take, drop, vec_len, vec_capacity}
use Rattle.std.specs.List.{filter_map}
use Rattle.std.specs.Prelude.{map, slice_get}
use Rattle.rb_auditor.proofs.posted.Posted.add.Given as goal

abbrev pub invariant-loop-place : goal.invariant-loop-place
invariant-loop-place l =
    (map (slice_get l.self-inside.all.now.items) l.self-inside.places.items
    ≡ map (λ m. Some m) (filter_map (slice_get l.initial.self-inside.all.now.items) l.initial.self-inside.places.items
    ++ take (l.place - l.first) (drop l.first l.self-inside.all.now.items)))
    × (l.first ≤ l.place)
    × (vec_len l.self-inside.places + l.count ≤ vec_capacity l.self-inside.places + (l.place - l.first))
    × (l.self-inside.all ≡ l.initial.self-inside.all)
