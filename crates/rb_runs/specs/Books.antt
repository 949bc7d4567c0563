-- The books of a bank: when they may be closed, what is open else, and the next bank's configuration.
use Rattle.std.specs.Prelude.{◌≡◌, ◌⊎◌, ◌<◌, ◌≤◌, ℕ, ◌+◌, Bool, true, false, not, ◌&&◌, ◌==◌, List, [], ◌∷◌, ◌++◌, length, map, filter}
use Rattle.std.specs.Prelude.{Option, None, Some, replicate, slice_get, zip, if◌then◌else◌}
use Rattle.std.specs.List.{list_any, range_with_len}
use Rattle.rb_history.specs.Verdicts.{limit_json, open_json, verdict_line}
use Rattle.rb_money.specs.Faults.{Account}
use Rattle.rb_money.specs.Settings.{Settings, version_of}
use Rattle.rb_money.specs.declared.cents.TheConstants.{MOST_CENTS}
use Rattle.rb_shadow.specs.Operations.{blue_count, clock_of, names, red_count}
use Rattle.rb_shadow.specs.declared.op_name.OpName.{OpName}
use Rattle.rb_shadow.specs.declared.op_name.OpName.TheVariants.{Blue, Red}
use Rattle.rb_shadow.specs.declared.shadow.Shadow.{Shadow}
use Rattle.rb_site.specs.declared.entry.Entry.{Entry}
use Rattle.rb_site.specs.Histories.{AreOneWorlds}
use Rattle.rb_site.specs.Reports.{balances_of}
use Rattle.rb_site.specs.Seen.{SeenSite, state_of}
use Rattle.rb_runs.specs.Audit.{ReportsVerdict}
use Rattle.rb_runs.specs.Inputs.{Input}
use Rattle.rb_runs.specs.Texts.{config_line}

-- what each site has applied after its history, from this site on
abbrev pub applied_from : Settings → ℕ → List (List Entry) → List (List Shadow)
applied_from s i [] = []
applied_from s i (h ∷ hs) = (state_of (record { settings = s; me = i; entries = h })).ops ∷ applied_from s (i + 1) hs

-- what each site of a bank has applied
abbrev pub applied_in : Input → List (List Shadow)
applied_in x = applied_from x.settings 0 x.histories

-- what sites have applied
abbrev pub applied_by : List SeenSite → List (List Shadow)
applied_by xs = map (λ (x : SeenSite). (state_of x).ops) xs

-- the configuration, and the histories of these sites
abbrev pub input_at : Settings → List SeenSite → Input
input_at s xs = record { settings = s; histories = map (λ (x : SeenSite). x.entries) xs }

-- the books may be closed: all sites' clocks are equal, so each site has applied every operation that any site made
abbrev pub MayBeClosed : List (List Shadow) → Type 0
MayBeClosed uss = (i j : ℕ) (us vs : List Shadow) → slice_get uss i ≡ Some us → slice_get uss j ≡ Some vs → clock_of us ≡ clock_of vs

-- ---- what is open

-- the site that has applied these operations lacks the one of this name, which another site has applied
abbrev pub lacks : List (List Shadow) → List Shadow → OpName → Bool
lacks uss us x = list_any (λ vs. names vs x) uss && not (names us x)

-- of each home, and of the red ones, the name of the operation that comes next at a site
abbrev pub next_names : ℕ → List Shadow → List OpName
next_names sites us = map (λ i. Blue i (blue_count us i + 1)) (range_with_len 0 sites) ++ Red (red_count us + 1) ∷ []

-- of each home, and of the red ones, the first operation that the site lacks
abbrev pub lacked : ℕ → List (List Shadow) → List Shadow → List OpName
lacked sites uss us = filter (lacks uss us) (next_names sites us)

-- ---- the next bank

-- what is asked of the next bank: a number of sites, else it has as many as before; and accounts after the others
pub record NextBank : Type 0 where
  pub sites : Option ℕ
  pub added : List (List ℕ)

-- the number of its sites
abbrev pub sites_of_next : Settings → Option ℕ → ℕ
sites_of_next s None = s.sites
sites_of_next s (Some n) = n

-- the version of its lines: 2 if it was 2, or if there are too many sites for version 1
abbrev pub next_version : Settings → ℕ → ℕ
next_version s n = if s.version == 2 then 2 else version_of n

-- the accounts of the next bank: each starts with its balance, and the added ones with 0
abbrev pub next_accounts : Settings → List ℕ → NextBank → List Account
next_accounts s balances ask = zip s.names balances ++ map (λ name. (name, 0)) ask.added

-- its configuration, if the accounts have these balances
abbrev pub next_with : Settings → List ℕ → NextBank → Settings
next_with s balances ask = record {
  sites = sites_of_next s ask.sites;
  names = s.names ++ ask.added;
  starts = balances ++ replicate (length ask.added) 0;
  limits = s.limits;
  version = next_version s (sites_of_next s ask.sites);
}

-- its configuration after a site that has applied these operations
abbrev pub next_settings : Settings → List Shadow → NextBank → Settings
next_settings s us ask = next_with s (balances_of s us) ask

-- the first place of an account whose balance is above what an account may start with
pub record IsFirstAbove (balances : List ℕ) (place : ℕ) : Type 0 where
  pub balance : ℕ
  pub there : slice_get balances place ≡ Some balance
  pub above : MOST_CENTS < balance
  pub before : (i n : ℕ) → i < place → slice_get balances i ≡ Some n → n ≤ MOST_CENTS

-- ---- the line that is answered

-- the histories are one world's, the books may be closed, and the line is that of the next configuration: by what any
-- of the sites has applied
pub record ReportsNext (ask : NextBank) (x : Input) (line : List ℕ) : Type 0 where
  pub one : AreOneWorlds x.settings x.histories
  pub closed : MayBeClosed (applied_in x)
  pub line_is : (i : ℕ) (us : List Shadow) → slice_get (applied_in x) i ≡ Some us
      → line ≡ config_line (next_settings x.settings us ask)
  pub few : (i : ℕ) (us : List Shadow) → slice_get (applied_in x) i ≡ Some us → (j n : ℕ)
      → slice_get (balances_of x.settings us) j ≡ Some n → n ≤ MOST_CENTS

-- the histories are one world's, and some site lacks an operation; the line has what each site lacks
pub record ReportsOpen (x : Input) (line : List ℕ) : Type 0 where
  pub one : AreOneWorlds x.settings x.histories
  pub is_open : ¬ MayBeClosed (applied_in x)
  pub line_is : line ≡ verdict_line (open_json (map (lacked x.settings.sites (applied_in x)) (applied_in x)))

-- the books may be closed, but an account has more than it may start with; the line names the first such account
pub record ReportsLimit (x : Input) (line : List ℕ) : Type 0 where
  pub one : AreOneWorlds x.settings x.histories
  pub closed : MayBeClosed (applied_in x)
  pub place : ℕ
  pub name : List ℕ
  pub named : slice_get x.settings.names place ≡ Some name
  pub first : (i : ℕ) (us : List Shadow) → slice_get (applied_in x) i ≡ Some us
      → IsFirstAbove (balances_of x.settings us) place
  pub line_is : line ≡ verdict_line (limit_json name)

-- if no balance of these operations is above what an account may start with, the line is that of the next
-- configuration
pub record StartsNext (ask : NextBank) (s : Settings) (us : List Shadow) (line : List ℕ) : Type 0 where
  pub few : (j n : ℕ) → slice_get (balances_of s us) j ≡ Some n → n ≤ MOST_CENTS
  pub line_is : line ≡ config_line (next_settings s us ask)

-- the line names the first account whose balance is above
pub record NamesAbove (s : Settings) (us : List Shadow) (line : List ℕ) : Type 0 where
  pub place : ℕ
  pub name : List ℕ
  pub named : slice_get s.names place ≡ Some name
  pub first : IsFirstAbove (balances_of s us) place
  pub line_is : line ≡ verdict_line (limit_json name)

-- the line of closed books by these operations, and whether it is the next configuration's
abbrev pub ReportsBalances : NextBank → Bool → Settings → List Shadow → List ℕ → Type 0
ReportsBalances ask true s us line = StartsNext ask s us line
ReportsBalances ask false s us line = NamesAbove s us line

-- the line that closing these histories answers, and whether it is the next configuration's
abbrev pub ReportsClosing : NextBank → Bool → Input → List ℕ → Type 0
ReportsClosing ask true x line = ReportsNext ask x line
ReportsClosing ask false x line = ReportsVerdict false x line ⊎ ReportsOpen x line ⊎ ReportsLimit x line
