-- The laws of closing a bank's books.
use Rattle.std.specs.Prelude.{◌≡◌, ◌↔◌, ◌<◌, ◌≤◌, ℕ, zero, suc, ◌+◌, true, false, List, [], ◌∷◌, length, replicate, Some, None, Ok}
use Rattle.std.specs.Prelude.{get_or, slice_get, sum, ℤ, pos, ◌+ℤ◌, ◌≤ℤ◌}
use Rattle.serde_json.specs.Written.{compact_text}
use Rattle.rb_lines.specs.Lines.{lines_of}
use Rattle.rb_money.specs.Faults.{config_fault}
use Rattle.rb_money.specs.Settings.{IsConfigured, Settings, start_of}
use Rattle.rb_money.specs.declared.place.Place.{Place}
use Rattle.rb_shadow.specs.declared.op_name.OpName.{OpName}
use Rattle.rb_shadow.specs.declared.shadow.Shadow.{Shadow}
use Rattle.rb_shadow.specs.Operations.{Agree, Among, bal, delta, kept, names, number_of, row_of, total}
use Rattle.rb_site.specs.declared.entry.Entry.{Entry}
use Rattle.rb_site.specs.Histories.{AreOneWorlds}
use Rattle.rb_site.specs.Reports.{balances_of}
use Rattle.rb_site.specs.Worlds.{made_in, world_of_run}
use Rattle.rb_history.specs.ConfigLines.{config_json}
use Rattle.rb_history.specs.Configurations.{config_on}
use Rattle.rb_runs.specs.Books.{MayBeClosed, NextBank, ReportsNext, applied_from, applied_in, lacked, next_accounts, next_settings}
use Rattle.rb_runs.specs.Books.{sites_of_next}
use Rattle.rb_runs.specs.InputLaws.{HasShortLines}
use Rattle.rb_runs.specs.Inputs.{Input, input_of}
use Rattle.rb_runs.specs.Texts.{config_line}

-- ---- closed is at rest

-- of what the sites have applied, and all that was made: any two sites agree, also in every balance, and each site has
-- applied every operation that was made, and no other
pub record AreAtRest (s : Settings) (made : List Shadow) (uss : List (List Shadow)) : Type 0 where
  pub agree : (i j : ℕ) (us vs : List Shadow) → slice_get uss i ≡ Some us → slice_get uss j ≡ Some vs → Agree s us vs
  pub all : (i : ℕ) (us : List Shadow) → slice_get uss i ≡ Some us → (v : Shadow) → Among v made → Among v us
  pub no_other : (i : ℕ) (us : List Shadow) → slice_get uss i ≡ Some us → (v : Shadow) → Among v us → Among v made

-- if the histories are one world's and the books may be closed, the world is at rest
abbrev pub ClosedBalancesAgree : Type 0
ClosedBalancesAgree = (x : Input) → IsConfigured x.settings → (one : AreOneWorlds x.settings x.histories) → MayBeClosed (applied_in x)
    → AreAtRest x.settings (made_in (world_of_run x.settings one.events)) (applied_in x)

-- ---- what is open

-- the list has a name of this one's row, with a number not above this one's
abbrev pub HasUpTo : List OpName → OpName → Type 0
HasUpTo xs y = (k : ℕ) × (x : OpName) × (slice_get xs k ≡ Some x) × (row_of x ≡ row_of y) × (number_of x ≤ number_of y)

-- of what the sites have applied, and all that was made: what the lists of names say
pub record AreLacking (sites : ℕ) (made : List Shadow) (uss : List (List Shadow)) : Type 0 where
  -- each name of a site's list is of an operation that was made and that the site hasn't applied
  pub lacking : (i : ℕ) (us : List Shadow) → slice_get uss i ≡ Some us → (k : ℕ) (x : OpName)
      → slice_get (lacked sites uss us) k ≡ Some x → (names made x ≡ true) × (names us x ≡ false)
  -- of each operation that was made and that a site hasn't applied, its list has the name or an earlier one of the row
  pub first : (i : ℕ) (us : List Shadow) → slice_get uss i ≡ Some us → (y : OpName) → names made y ≡ true → names us y ≡ false
      → HasUpTo (lacked sites uss us) y
  -- if the books may not be closed, some list has a name
  pub some : ¬ MayBeClosed uss → (i : ℕ) × (us : List Shadow) × (x : OpName) × (slice_get uss i ≡ Some us)
      × (slice_get (lacked sites uss us) 0 ≡ Some x)
  -- they may be closed if and only if no list has one
  pub none : MayBeClosed uss ↔ ((i : ℕ) (us : List Shadow) → slice_get uss i ≡ Some us → lacked sites uss us ≡ [])

-- the lists of an `open` line are what the sites of the one world lack
abbrev pub OpenListsAreLacking : Type 0
OpenListsAreLacking = (x : Input) → IsConfigured x.settings → (one : AreOneWorlds x.settings x.histories)
    → AreLacking x.settings.sites (made_in (world_of_run x.settings one.events)) (applied_in x)

-- ---- carried forward

-- the sum of a number of each account, of n accounts from place i on
abbrev pub sum_of_accounts : (Place → ℤ) → ℕ → ℕ → ℤ
sum_of_accounts f i zero = pos 0
sum_of_accounts f i (suc n) = f (record { 0 = i }) +ℤ sum_of_accounts f (i + 1) n

-- after a site that has applied these operations, the next bank goes on with the balances
pub record IsCarriedForward (s : Settings) (us : List Shadow) (next : Settings) : Type 0 where
  -- each account keeps its place
  pub names : (i : ℕ) (name : List ℕ) → slice_get s.names i ≡ Some name → slice_get next.names i ≡ Some name
  -- it starts with its balance
  pub balances : (a : Place) → pos (start_of next a) ≡ bal s us a
  -- that is its start and the deltas of what is kept
  pub starts : (a : Place) → pos (start_of next a) ≡ pos (start_of s a) +ℤ total (λ u. delta u a) (kept us)
  -- an added account starts with 0
  pub added : (a : Place) → length s.names ≤ a.0 → start_of next a ≡ 0
  -- the sum over all accounts stays
  pub sum : pos (sum next.starts) ≡ sum_of_accounts (bal s us) 0 (length s.names)

-- a closed world gives one next configuration, whichever site it is after, and it goes on with the balances
pub record AreCarriedForward (s : Settings) (uss : List (List Shadow)) (ask : NextBank) : Type 0 where
  pub carried : (i : ℕ) (us : List Shadow) → slice_get uss i ≡ Some us → IsCarriedForward s us (next_settings s us ask)
  pub one : (i j : ℕ) (us vs : List Shadow) → slice_get uss i ≡ Some us → slice_get uss j ≡ Some vs
      → next_settings s us ask ≡ next_settings s vs ask

-- if the books may be closed, the balances are carried forward
abbrev pub CarriedForward : Type 0
CarriedForward = (x : Input) (ask : NextBank) → IsConfigured x.settings → AreOneWorlds x.settings x.histories → MayBeClosed (applied_in x)
    → AreCarriedForward x.settings (applied_in x) ask

-- ---- the next bank

-- the settings are a configuration's, and its line is read as them; an audit takes the line as a bank with no entry,
-- unless it is too long
pub record IsBank (s : Settings) : Type 0 where
  pub configured : IsConfigured s
  pub line : config_on (compact_text (config_json s)) ≡ Some s
  pub text : HasShortLines (config_line s)
      → input_of (lines_of (config_line s)) ≡ Ok (record { settings = s; histories = replicate s.sites [] })

-- if nothing is wrong with what is asked, the next bank is a bank
abbrev pub NextIsConfigured : Type 0
NextIsConfigured = (s : Settings) (us : List Shadow) (ask : NextBank) → IsConfigured s
    → config_fault (sites_of_next s ask.sites) (next_accounts s (balances_of s us) ask) s.limits ≡ None → IsBank (next_settings s us ask)

-- ---- periods

-- a period of a bank: the histories of its sites until its books are closed, one of the sites, and what is asked of the
-- next bank
pub record Period : Type 0 where
  pub histories : List (List Entry)
  pub site : ℕ
  pub ask : NextBank

-- what its site has applied in a period
abbrev pub applied_over : Settings → Period → List Shadow
applied_over s p = get_or (applied_from s 0 p.histories) p.site []

-- the configuration after a period
abbrev pub settings_behind : Settings → Period → Settings
settings_behind s p = next_settings s (applied_over s p) p.ask

-- the configuration after a list of periods
abbrev pub settings_after : Settings → List Period → Settings
settings_after s [] = s
settings_after s (p ∷ ps) = settings_after (settings_behind s p) ps

-- each period is a closed world, and one of its sites, of the configuration that the one before gave
abbrev pub ArePeriods : Settings → List Period → Type 0
ArePeriods s [] = Unit {0}
ArePeriods s (p ∷ ps) = IsConfigured s × (p.site < s.sites) × AreOneWorlds s p.histories × MayBeClosed (applied_from s 0 p.histories)
    × ArePeriods (settings_behind s p) ps

-- the deltas on an account of what is kept at the site of each period, all together
abbrev pub kept_over : Settings → List Period → Place → ℤ
kept_over s [] a = pos 0
kept_over s (p ∷ ps) a = total (λ u. delta u a) (kept (applied_over s p)) +ℤ kept_over (settings_behind s p) ps a

-- after these periods, at a site that has applied these operations since: as if it were one bank
pub record GoesOn (s : Settings) (ps : List Period) (us : List Shadow) : Type 0 where
  -- each account keeps its place
  pub names : (i : ℕ) (name : List ℕ) → slice_get s.names i ≡ Some name → slice_get (settings_after s ps).names i ≡ Some name
  -- a balance is the first bank's start and the deltas of what is kept in all periods and since
  pub balances : (a : Place) → bal (settings_after s ps) us a
      ≡ pos (start_of s a) +ℤ kept_over s ps a +ℤ total (λ u. delta u a) (kept us)
  -- an account that was added later starts with 0 in the first bank
  pub added : (a : Place) → length s.names ≤ a.0 → start_of s a ≡ 0
  -- no balance is negative
  pub never_negative : (a : Place) → pos 0 ≤ℤ bal (settings_after s ps) us a

-- any number of periods, and a world after them, whose books may be open, are one bank
abbrev pub PeriodsAreOne : Type 0
PeriodsAreOne = (s : Settings) (ps : List Period) → IsConfigured s → ArePeriods s ps → IsConfigured (settings_after s ps)
    → (hs : List (List Entry)) → AreOneWorlds (settings_after s ps) hs → (i : ℕ) (us : List Shadow)
    → slice_get (applied_from (settings_after s ps) 0 hs) i ≡ Some us → GoesOn s ps us

-- the histories of an input as a period, with one of its sites
abbrev pub period_of : Input → ℕ → NextBank → Period
period_of x site ask = record { histories = x.histories; site = site; ask = ask }

-- if closing answers the next configuration's line, the histories are a period, and the line is that of the
-- configuration after it, whichever of the sites is asked
abbrev pub AnswersArePeriods : Type 0
AnswersArePeriods = (x : Input) (ask : NextBank) (line : List ℕ) → IsConfigured x.settings → ReportsNext ask x line → (site : ℕ)
    → site < x.settings.sites
    → ArePeriods x.settings (period_of x site ask ∷ []) × (line ≡ config_line (settings_behind x.settings (period_of x site ask)))
