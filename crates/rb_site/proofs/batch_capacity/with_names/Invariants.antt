-- So far there is a name for each operation below.
use Rattle.std.proofs.Common.{◌≡◌, ◌≤◌, length, take, vec_len, vec_capacity}
use Rattle.rb_scratch.specs.Batches.{names_of_all}
use Rattle.rb_site.proofs.batch_capacity.with_names.Given as goal

abbrev pub invariant-loop-shadow : goal.invariant-loop-shadow
invariant-loop-shadow l =
    (l.names.items ≡ names_of_all (take l.shadow-index l.made))
    × (vec_len l.names ≡ l.shadow-index)
    × (length l.made ≤ vec_capacity l.names)
