-- So far the accounts, with those that are left, are all of them.
use Rattle.rb_runs.proofs.Words.{◌≡◌, ◌++◌, drop, map, zip, account_of, next_accounts}
use Rattle.rb_runs.proofs.NextAccounts.{added_from}
use Rattle.rb_runs.proofs.books.next.accounts.Given as goal

abbrev pub invariant-loop-place : goal.invariant-loop-place
invariant-loop-place l = map account_of l.accounts.items ++ zip (drop l.place l.config.names) (drop l.place l.balances)
    ≡ zip l.config.names l.balances

abbrev pub invariant-loop-name : goal.invariant-loop-name
invariant-loop-name l = map account_of l.accounts.items ++ added_from (drop l.name-index l.ask.added)
    ≡ next_accounts l.config l.balances l.ask
