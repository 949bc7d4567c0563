-- The line that is written for a configuration.
use Rattle.std.specs.Prelude.{◌≡◌, ℕ, List, [], ◌∷◌, Some, codes}
use Rattle.serde_json.specs.Data.{Data, string, object, member, no_members}
use Rattle.serde_json.specs.Written.{compact_text}
use Rattle.rb_money.specs.Faults.{Account}
use Rattle.rb_money.specs.Settings.{IsConfigured, Settings}
use Rattle.rb_history.specs.Configurations.{config_at}
use Rattle.rb_history.specs.Values.{number_json, list_json, pair_json}

-- an account: its name and its starting balance
abbrev pub start_json : Account → Data
start_json a = pair_json (string a.0) (number_json a.1)

-- accounts, from their names and their starting balances
abbrev pub accounts_of : List (List ℕ) → List ℕ → List Account
accounts_of [] starts = []
accounts_of (name ∷ names) [] = []
accounts_of (name ∷ names) (start ∷ starts) = (name, start) ∷ accounts_of names starts

-- a configuration: all its keys, in byte order
abbrev pub config_json : Settings → Data
config_json s = object
    (member (codes "accounts") (list_json start_json (accounts_of s.names s.starts))
    (member (codes "blue") (number_json s.limits.blue)
    (member (codes "epoch") (number_json s.limits.epoch)
    (member (codes "history") (number_json s.limits.history)
    (member (codes "inbox") (number_json s.limits.inbox)
    (member (codes "red") (number_json s.limits.red)
    (member (codes "sites") (number_json s.sites)
    (member (codes "version") (number_json s.version) no_members))))))))

-- the line of each configuration is read as it
abbrev pub ConfigsAreRead : Type 0
ConfigsAreRead = (s : Settings) → IsConfigured s → config_at (compact_text (config_json s)) ≡ Some s
