-- The settings that a configuration fixes.
use Rattle.std.specs.List.{list_all}
use Rattle.std.specs.Prelude.{◌≡◌, ℕ, Bool, true, ◌&&◌, ◌||◌, nat_le, nat_lt, ◌==◌, List, length, Option, Some, option_map, position}
use Rattle.std.specs.Prelude.{slice_get, slice_index, ◌≤◌, ◌⊎◌, if◌then◌else◌}
use Rattle.std.specs.Str.{bytes_eq}
use Rattle.rb_money.specs.declared.accounts.TheConstants.{LONGEST_NAME}
use Rattle.rb_money.specs.declared.cents.TheConstants.{MOST_CENTS}
use Rattle.rb_money.specs.declared.limits.Limits.{Limits}
use Rattle.rb_money.specs.declared.limits.TheConstants.{MOST_SITES, MOST_SITES_OF_VERSION_1, MOST_ACCOUNTS, MOST_BLUE, MOST_RED, MOST_INBOX}
use Rattle.rb_money.specs.declared.limits.TheConstants.{MOST_HISTORY, MOST_EPOCH}
use Rattle.rb_money.specs.declared.place.Place.{Place}

-- the sites, the name and the starting balance of each account in order of place, the limits, and the version of the
-- lines, which nothing but lines looks at
pub record Settings : Type 0 where
  pub sites : ℕ
  pub names : List (List ℕ)
  pub starts : List ℕ
  pub limits : Limits
  pub version : ℕ

-- the name and the starting balance of each account, in order of place
pub record AccountList : Type 0 where
  pub names : List (List ℕ)
  pub starts : List ℕ

-- the first place that has the name
abbrev pub place_in : List (List ℕ) → List ℕ → Option Place
place_in names name = option_map (λ i. record { 0 = i }) (position (λ n. bytes_eq name n) names)

-- what an account starts with
abbrev pub start_of : Settings → Place → ℕ
start_of s a = slice_index s.starts a.0

-- the configuration has the account
abbrev pub is_account : Settings → Place → Bool
is_account s a = nat_lt a.0 (length s.starts)

-- a byte of an account's name: a to z, 0 to 9, a dot, an underscore or a dash
abbrev pub is_name_byte : ℕ → Bool
is_name_byte b = (nat_le 97 b && nat_le b 122) || (nat_le 48 b && nat_le b 57) || (b == 46) || (b == 95) || (b == 45)

-- an account's name has such bytes, from 1 to the most
abbrev pub is_account_name : List ℕ → Bool
is_account_name name = nat_le 1 (length name) && nat_le (length name) LONGEST_NAME && list_all is_name_byte name

-- the number is from 1 to the most that a limit may be
abbrev pub IsLimit : ℕ → ℕ → Type 0
IsLimit n most = (1 ≤ n) × (n ≤ most)

-- lines of a bank with this number of sites may have this version: 1 up to the most sites of version 1, and 2 whatever
-- the sites
abbrev pub IsVersion : ℕ → ℕ → Type 0
IsVersion version sites = ((version ≡ 1) × (sites ≤ MOST_SITES_OF_VERSION_1)) ⊎ (version ≡ 2)

-- the version for this number of sites if none is asked for: 1 if it may be
abbrev pub version_of : ℕ → ℕ
version_of sites = if nat_le sites MOST_SITES_OF_VERSION_1 then 1 else 2

-- the configuration, but for the version of its lines, which is 2
abbrev pub in_version_2 : Settings → Settings
in_version_2 s = record s { version = 2 }

-- what every configuration keeps
pub record IsConfigured (s : Settings) : Type 0 where
  pub some_sites : 2 ≤ s.sites
  pub few_sites : s.sites ≤ MOST_SITES
  pub some_accounts : 1 ≤ length s.names
  pub few_accounts : length s.names ≤ MOST_ACCOUNTS
  pub starts_of_all : length s.starts ≡ length s.names
  pub names : (i : ℕ) (name : List ℕ) → slice_get s.names i ≡ Some name → is_account_name name ≡ true
  -- no two accounts have the same name
  pub unique : (i j : ℕ) (name : List ℕ) → slice_get s.names i ≡ Some name → slice_get s.names j ≡ Some name → i ≡ j
  pub starts : (i n : ℕ) → slice_get s.starts i ≡ Some n → n ≤ MOST_CENTS
  pub blue : IsLimit s.limits.blue MOST_BLUE
  pub red : IsLimit s.limits.red MOST_RED
  pub inbox : IsLimit s.limits.inbox MOST_INBOX
  pub history : IsLimit s.limits.history MOST_HISTORY
  pub epoch : IsLimit s.limits.epoch MOST_EPOCH
  pub version : IsVersion s.version s.sites
