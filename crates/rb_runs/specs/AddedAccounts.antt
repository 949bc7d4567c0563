-- Faults of accounts that are to be added.
use Rattle.std.specs.Prelude.{◌≡◌, ◌⊎◌, ℕ, ◌-◌, List, [], ◌∷◌, ◌++◌, codes, get_or, length, map, replicate, Option, None, Some}
use Rattle.rb_money.specs.Faults.{config_fault}
use Rattle.rb_money.specs.Settings.{Settings}
use Rattle.rb_money.specs.declared.fault.ConfigFault.{ConfigFault}
use Rattle.rb_money.specs.declared.fault.ConfigFault.TheVariants.{Name, Twice}
use Rattle.rb_money.specs.declared.limits.Limits.{Limits}
use Rattle.rb_money.specs.declared.limits.TheConstants.{MOST_BLUE, MOST_EPOCH, MOST_HISTORY, MOST_INBOX, MOST_RED}
use Rattle.rb_runs.specs.Books.{next_accounts}
use Rattle.rb_runs.specs.declared.books.added_fault.AddedFault.{AddedFault}
use Rattle.rb_runs.specs.declared.books.added_fault.AddedFault.TheVariants.{There, NoName, TooMany, OutOfMemory}

-- each limit, as large as it may be
abbrev pub largest : Limits
largest = record { blue = MOST_BLUE; red = MOST_RED; inbox = MOST_INBOX; history = MOST_HISTORY; epoch = MOST_EPOCH }

-- what is wrong with a bank that has these accounts after those of another, which start with nothing; if no other is
-- known, with a bank of two sites that has these alone
abbrev pub added_fault : Option Settings → List (List ℕ) → Option ConfigFault
added_fault (Some s) names = config_fault s.sites
    (next_accounts s (replicate (length s.names) 0) (record { sites = None; added = names })) s.limits
added_fault None [] = None
added_fault None (name ∷ names) = config_fault 2 (map (λ n. (n, 0)) (name ∷ names)) largest

-- how many accounts there are before the added ones
abbrev pub before_added : Option Settings → ℕ
before_added None = 0
before_added (Some s) = length s.names

-- it is of the added ones, which are counted from 0: the sites, the limits, and what the accounts start with, are
-- proper
abbrev pub as_added : ℕ → ConfigFault → AddedFault
as_added before (Name i) = NoName (i - before)
as_added before (Twice i) = There (i - before)
as_added before _ = TooMany

-- the fault is the first, or memory ran out
abbrev pub IsAddedFault : Option Settings → List (List ℕ) → AddedFault → Type 0
IsAddedFault s names fault = (fault ≡ OutOfMemory)
    ⊎ ((why : ConfigFault) × (added_fault s names ≡ Some why) × (fault ≡ as_added (before_added s) why))

-- what is said of it, with the name of the account
abbrev pub added_message_of : List (List ℕ) → AddedFault → List ℕ
added_message_of names (There i) = codes "rbbank: account " ++ get_or names i [] ++ codes ": there is one already"
added_message_of names (NoName i) = codes "rbbank: account " ++ get_or names i [] ++ codes ": no name"
added_message_of names TooMany = codes "rbbank: too many accounts"
added_message_of names OutOfMemory = codes "rbbank: out of memory"

abbrev pub added_status_of : AddedFault → ℕ
added_status_of OutOfMemory = 4
added_status_of _ = 2
