-- The lists so far have no name.
use Rattle.rb_runs.proofs.Words.{◌≡◌, ◌<◌, ℕ, List, [], Some, map, slice_get, OpName}
use Rattle.rb_runs.proofs.books.open.are_empty.Given as goal

abbrev pub invariant-loop-list : goal.invariant-loop-list
invariant-loop-list l = (i : ℕ) (list : List OpName) → i < l.list-index → slice_get (map (λ list. list.items) l.lists) i ≡ Some list
    → list ≡ []
