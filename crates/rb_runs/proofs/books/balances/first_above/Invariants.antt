-- The balances so far aren't above.
use Rattle.rb_runs.proofs.Words.{◌≡◌, ◌<◌, ◌≤◌, ℕ, Some, slice_get, MOST_CENTS}
use Rattle.rb_runs.proofs.books.balances.first_above.Given as goal

abbrev pub invariant-loop-place : goal.invariant-loop-place
invariant-loop-place l = (i n : ℕ) → i < l.place → slice_get l.balances i ≡ Some n → n ≤ MOST_CENTS
