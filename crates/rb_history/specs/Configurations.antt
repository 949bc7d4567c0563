-- Which configuration a line is.
use Rattle.std.specs.Prelude.{ℕ, ◌+◌, ◌^◌, ◌==◌, ◌&&◌, ◌||◌, Bool, List, [], ◌∷◌, Option, Some, None, is_none, is_some, codes}
use Rattle.std.specs.Prelude.{if◌then◌else◌, option_and_then, option_map, nat_le}
use Rattle.std.specs.Str.{is_utf8}
use Rattle.serde_json.specs.Data.{Data, Items, no_items, item}
use Rattle.serde_json.specs.Find.{get, as_array, as_str}
use Rattle.serde_json.specs.Read.{read}
use Rattle.rb_money.specs.Faults.{Account, config_fault, settings_of}
use Rattle.rb_money.specs.Settings.{Settings}
use Rattle.rb_money.specs.declared.limits.Limits.{Limits}
use Rattle.rb_money.specs.declared.limits.TheConstants.{MOST_SITES_OF_VERSION_1, MOST_BLUE, MOST_RED, MOST_INBOX, MOST_HISTORY, MOST_EPOCH}
use Rattle.rb_history.specs.Values.{number_below, pair_of, size_of, either}

-- an account's name and starting balance, from the list of both
abbrev pub account_at : Data → Option Account
account_at d = option_and_then (λ p. option_and_then (λ name. option_map (λ start. (name, start)) (number_below (2 ^ 64) p.1)) (as_str p.0))
    (pair_of d)

-- the accounts of a list, in its order
abbrev pub accounts_in : Items → Option (List Account)
accounts_in no_items = Some []
accounts_in (item d ds) = option_and_then (λ a. option_map (λ later. a ∷ later) (accounts_in ds)) (account_at d)

abbrev pub accounts_at : Data → Option (List Account)
accounts_at d = option_and_then accounts_in (as_array d)

-- a limit: the most that it may be if its key is missing
abbrev pub limit_read : List ℕ → ℕ → Data → Option ℕ
limit_read key most d = either (get key d) (number_below (2 ^ 32)) (Some most)

abbrev pub limits_from : ℕ → ℕ → ℕ → ℕ → ℕ → Limits
limits_from blue red inbox history epoch = record { blue = blue; red = red; inbox = inbox; history = history; epoch = epoch }

abbrev pub limits_of : Data → Option Limits
limits_of d = option_and_then (λ blue. option_and_then (λ red. option_and_then
    (λ inbox. option_and_then (λ history. option_map (limits_from blue red inbox history)
    (limit_read (codes "epoch") MOST_EPOCH d))
    (limit_read (codes "history") MOST_HISTORY d))
    (limit_read (codes "inbox") MOST_INBOX d))
    (limit_read (codes "red") MOST_RED d))
    (limit_read (codes "blue") MOST_BLUE d)

-- 1 where the object has the key, else 0
abbrev pub has : List ℕ → Data → ℕ
has key d = if is_some (get key d) then 1 else 0

-- no key but the three that are required and the five of the limits
abbrev pub has_known_keys : Data → Bool
has_known_keys d = size_of d == 3 + has (codes "blue") d + has (codes "red") d + has (codes "inbox") d + has (codes "history") d
    + has (codes "epoch") d

-- the version of the format
abbrev pub version_at : Data → Option ℕ
version_at d = option_and_then (number_below (2 ^ 8)) (get (codes "version") d)

-- lines of a bank with this number of sites may have this version: 1 up to the most sites of version 1, and 2 whatever
-- the sites
abbrev pub is_version : ℕ → ℕ → Bool
is_version version sites = ((version == 1) && nat_le sites MOST_SITES_OF_VERSION_1) || (version == 2)

-- the configuration of these parts, if nothing is wrong with it
abbrev pub config_from : ℕ → ℕ → Limits → List Account → Option Settings
config_from version sites limits accounts = if is_version version sites && is_none (config_fault sites accounts limits)
    then Some (record (settings_of sites accounts limits) { version = version }) else None

-- the configuration that the values of an object's keys come to
abbrev pub config_in : Data → Option Settings
config_in d = option_and_then (λ version. option_and_then (λ sites. option_and_then
    (λ limits. option_and_then (config_from version sites limits)
    (option_and_then accounts_at (get (codes "accounts") d)))
    (limits_of d))
    (option_and_then (number_below (2 ^ 8)) (get (codes "sites") d)))
    (version_at d)

-- the configuration that an object is
abbrev pub config_of : Data → Option Settings
config_of d = if has_known_keys d then config_in d else None

-- the configuration that a line is
abbrev pub config_at : List ℕ → Option Settings
config_at line = option_and_then config_of (read line)

-- the configuration on a line: it has to be UTF-8
unfoldable pub config_on : List ℕ → Option Settings
config_on l = if is_utf8 l then config_at l else None
