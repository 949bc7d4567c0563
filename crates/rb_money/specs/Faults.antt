-- The first thing that is wrong with a configuration that is asked for.
use Rattle.std.specs.Prelude.{ℕ, ◌+◌, ◌&&◌, Bool, not, List, [], ◌∷◌, ◌++◌, length, map, Option, Some, None, nat_le, nat_lt, if◌then◌else◌}
use Rattle.std.specs.Prelude.{◌≡◌, ◌<◌, String, false, get_or, string_bytes, take}
use Rattle.std.specs.List.{list_any}
use Rattle.std.specs.Option.{option_or}
use Rattle.std.specs.Str.{bytes_eq}
use Rattle.std.specs.declared.alloc.Global.{Global}
use Rattle.rb_money.specs.declared.fault.ConfigFault.{ConfigFault}
use Rattle.rb_money.specs.declared.fault.ConfigFault.TheVariants.{Sites, Accounts, Name, Twice, Start, Limit}
use Rattle.rb_money.specs.declared.limits.Limits.{Limits}
use Rattle.rb_money.specs.declared.cents.TheConstants.{MOST_CENTS}
use Rattle.rb_money.specs.Settings.{AccountList, Settings, is_account_name, version_of}
use Rattle.rb_money.specs.declared.limits.TheConstants.{MOST_SITES, MOST_ACCOUNTS, MOST_BLUE, MOST_RED, MOST_INBOX, MOST_HISTORY}
use Rattle.rb_money.specs.declared.limits.TheConstants.{MOST_EPOCH}

-- an account that is asked for: its name, and what it is to start with
abbrev pub Account : Type 0
Account = List ℕ × ℕ

-- the account that a text and a number ask for
abbrev pub account_of : String Global × ℕ → Account
account_of a = (string_bytes a.0, a.1)

-- accounts by their names and by their starting balances
abbrev pub listed : List Account → AccountList
listed accounts = record { names = map (λ a. a.0) accounts; starts = map (λ a. a.1) accounts }

-- what is asked for, as a configuration has it
abbrev pub settings_of : ℕ → List Account → Limits → Settings
settings_of sites accounts limits = record {
  sites = sites;
  names = (listed accounts).names;
  starts = (listed accounts).starts;
  limits = limits;
  version = version_of sites;
}

-- the name is one of these
abbrev pub is_among : List (List ℕ) → List ℕ → Bool
is_among names name = list_any (λ n. bytes_eq name n) names

-- the first account, of those from place i on, that is wrong: earlier ones have the names `before`
abbrev pub account_fault : List (List ℕ) → ℕ → List Account → Option ConfigFault
account_fault before i [] = None
account_fault before i (a ∷ later) =
    if not (is_account_name a.0) then Some (Name i)
    else (if is_among before a.0 then Some (Twice i)
    else (if nat_lt MOST_CENTS a.1 then Some (Start i)
    else account_fault (before ++ a.0 ∷ []) (i + 1) later))

-- each of the first n accounts has a name that none before it has
abbrev pub AreNewUpTo : ℕ → List (String Global × ℕ) → Type 0
AreNewUpTo n accounts = (i : ℕ) (a : String Global × ℕ) → i < n →
    is_among (map (λ b. b.0) (map account_of (take i accounts))) (string_bytes (get_or accounts i a).0) ≡ false

-- the number is from 1 to the most
abbrev pub is_limit : ℕ → ℕ → Bool
is_limit n most = nat_le 1 n && nat_le n most

-- each limit is in its range
abbrev pub are_limits : Limits → Bool
are_limits l = is_limit l.blue MOST_BLUE && is_limit l.red MOST_RED && is_limit l.inbox MOST_INBOX && is_limit l.history MOST_HISTORY
    && is_limit l.epoch MOST_EPOCH

-- the first thing that is wrong
abbrev pub config_fault : ℕ → List Account → Limits → Option ConfigFault
config_fault sites accounts limits =
    if not (nat_le 2 sites && nat_le sites MOST_SITES) then Some Sites
    else (if not (nat_le 1 (length accounts) && nat_le (length accounts) MOST_ACCOUNTS) then Some Accounts
    else option_or (account_fault [] 0 accounts) (if are_limits limits then None else Some Limit))
