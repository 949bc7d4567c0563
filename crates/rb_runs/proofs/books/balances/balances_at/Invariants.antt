-- So far there is a balance for each place below.
use Rattle.rb_runs.proofs.Words.{◌≡◌, map, range_with_len, cents, bal}
use Rattle.rb_runs.proofs.books.balances.balances_at.Given as goal

abbrev pub invariant-loop-place : goal.invariant-loop-place
invariant-loop-place l =
    l.balances.items ≡ map (λ i. cents (bal l.ledger.settings l.ledger.entries (record { 0 = i }))) (range_with_len 0 l.place)
