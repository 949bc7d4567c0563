use Rattle.rb_tests_runs.proofs.branch.gathered.Given as goal

abbrev pub ghosts-gathered_over-E-Ledger : goal.ghosts-gathered_over-E-Ledger
ghosts-gathered_over-E-Ledger g a = record { name = a.entries.name; parts = a.entries.parts }

abbrev pub ghosts-gathered_over-R-Ledger : goal.ghosts-gathered_over-R-Ledger
ghosts-gathered_over-R-Ledger g a = record { name = a.receipts.name; parts = a.receipts.parts }

abbrev pub ghosts-gathered_over-E-Entries : goal.ghosts-gathered_over-E-Entries
ghosts-gathered_over-E-Entries g a = record { settings = a.config }
