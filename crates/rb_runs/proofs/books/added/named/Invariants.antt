-- So far the accounts, with those that are left, are all of them.
use Rattle.rb_runs.proofs.Words.{◌≡◌, ◌++◌, drop, map, account_of}
use Rattle.rb_runs.proofs.NextAccounts.{added_from}
use Rattle.rb_runs.proofs.books.added.named.Given as goal

abbrev pub invariant-loop-name : goal.invariant-loop-name
invariant-loop-name l = map account_of l.accounts.items ++ added_from (drop l.name-index (map (λ name. name.now) l.names))
    ≡ added_from (map (λ name. name.now) l.names)
