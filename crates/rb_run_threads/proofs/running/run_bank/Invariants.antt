use Rattle.rb_run_threads.proofs.running.run_bank.Given as goal

abbrev pub ghosts-run_with-E-Ledger : goal.ghosts-run_with-E-Ledger
ghosts-run_with-E-Ledger g a = record { name = a.entries.name; parts = a.entries.parts }

abbrev pub ghosts-run_with-R-Ledger : goal.ghosts-run_with-R-Ledger
ghosts-run_with-R-Ledger g a = record { name = a.receipts.name; parts = a.receipts.parts }

abbrev pub ghosts-run_with-E-Entries : goal.ghosts-run_with-E-Entries
ghosts-run_with-E-Entries g a = record { settings = a.config }
