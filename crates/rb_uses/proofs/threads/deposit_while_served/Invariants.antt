-- The ledgers are those of the blanks, and the branch's settings are the configuration's.
use Rattle.rb_uses.proofs.threads.deposit_while_served.Given as goal

abbrev pub ghosts-with_branch-E-Ledger : goal.ghosts-with_branch-E-Ledger
ghosts-with_branch-E-Ledger g a = record { name = a.entries.name; parts = a.entries.parts }

abbrev pub ghosts-with_branch-R-Ledger : goal.ghosts-with_branch-R-Ledger
ghosts-with_branch-R-Ledger g a = record { name = a.receipts.name; parts = a.receipts.parts }

abbrev pub ghosts-with_branch-E-Entries : goal.ghosts-with_branch-E-Entries
ghosts-with_branch-E-Entries g a = record { settings = a.config }
