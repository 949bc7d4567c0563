-- So far the list has what the site lacks of the homes below.
use Rattle.rb_runs.proofs.Words.{◌≡◌, ◌+◌, map, filter, range_with_len, Blue, blue_count, state_of, applied_by, lacks}
use Rattle.rb_runs.proofs.books.open.lacked_at.Given as goal

abbrev pub invariant-loop-home : goal.invariant-loop-home
invariant-loop-home l = l.list.items ≡ filter (lacks (applied_by l.sites) (state_of l.site).ops)
    (map (λ i. Blue i (blue_count (state_of l.site).ops i + 1)) (range_with_len 0 l.home))
