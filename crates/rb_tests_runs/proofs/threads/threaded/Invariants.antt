use Rattle.rb_tests_runs.proofs.threads.threaded.Given as goal

abbrev pub ghosts-threaded_over-E-Ledger : goal.ghosts-threaded_over-E-Ledger
ghosts-threaded_over-E-Ledger g a = record { name = a.entries.name; parts = a.entries.parts }

abbrev pub ghosts-threaded_over-R-Ledger : goal.ghosts-threaded_over-R-Ledger
ghosts-threaded_over-R-Ledger g a = record { name = a.receipts.name; parts = a.receipts.parts }

abbrev pub ghosts-threaded_over-E-Entries : goal.ghosts-threaded_over-E-Entries
ghosts-threaded_over-E-Entries g a = record { settings = a.config }
