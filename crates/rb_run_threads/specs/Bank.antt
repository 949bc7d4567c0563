-- The bank that tellers run at.
use Rattle.std.specs.Prelude.{ℕ, List, [], ◌∷◌, codes}
use Rattle.rb_money.specs.Faults.{Account, settings_of}
use Rattle.rb_money.specs.Settings.{Settings}
use Rattle.rb_money.specs.declared.limits.TheConstants.{MOST_BLUE, MOST_RED, MOST_INBOX, MOST_HISTORY, MOST_EPOCH}

-- the names and the starting balances, in cents
abbrev pub accounts : List Account
accounts = (codes "a0", 1000) ∷ (codes "a1", 1000) ∷ (codes "a2", 1000) ∷ (codes "a3", 1000) ∷ []

-- a bank of this number of sites, with these accounts and the largest limits
abbrev pub bank_of : ℕ → Settings
bank_of sites =
    settings_of sites accounts (record { blue = MOST_BLUE; red = MOST_RED; inbox = MOST_INBOX; history = MOST_HISTORY; epoch = MOST_EPOCH })
