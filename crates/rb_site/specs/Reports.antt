-- The report of a site as it is closed.
use Rattle.std.specs.Prelude.{◌≡◌, ℕ, ◌≤◌, Bool, true, false, List, [], ◌∷◌, length, map}
use Rattle.std.specs.List.{range_with_len}
use Rattle.rb_money.specs.Amounts.{cents}
use Rattle.rb_money.specs.Settings.{Settings}
use Rattle.rb_shadow.specs.declared.shadow.Shadow.{Shadow}
use Rattle.rb_shadow.specs.Operations.{bal, cancel_count, clock_of}
use Rattle.rb_site.specs.declared.report.SiteReport.{SiteReport}
use Rattle.rb_site.specs.Events.{ModelSite}
use Rattle.rb_site.specs.Histories.{history_of}
use Rattle.rb_site.specs.States.{SiteState}

-- the balance of each account, in the order of the configuration
abbrev pub balances_of : Settings → List Shadow → List ℕ
balances_of s us = map (λ i. cents (bal s us (record { 0 = i }))) (range_with_len 0 (length s.starts))

-- for each operation, how many cancel it
abbrev pub counts_of : List Shadow → List ℕ
counts_of us = map (λ (u : Shadow). cancel_count us u.name) us

-- the report is the site's state, field by field, and its history
pub record IsReport (s : Settings) (t : ModelSite) (r : SiteReport) : Type 0 where
  pub me : r.me ≡ t.me
  pub balances : r.balances.items ≡ balances_of s t.ops
  pub entries : r.entries.items ≡ t.ops
  pub counts : r.counts.items ≡ counts_of t.ops
  pub clock : r.clock ≡ clock_of t.ops
  pub token_me : r.token.me ≡ t.me
  pub token_sites : r.token.sites ≡ s.sites
  pub token_limits : r.token.limits ≡ s.limits
  pub token : r.token.token ≡ t.token
  pub waiting : r.waiting ≡ length t.held
  pub history : r.history.items ≡ history_of s t

-- the report of a site that keeps no history is its state, without balances and counts
pub record IsReportUnkept (s : Settings) (t : ModelSite) (r : SiteReport) : Type 0 where
  pub me : r.me ≡ t.me
  pub balances : r.balances.items ≡ []
  pub entries : r.entries.items ≡ t.ops
  pub counts : r.counts.items ≡ []
  pub clock : r.clock ≡ clock_of t.ops
  pub token_me : r.token.me ≡ t.me
  pub token_sites : r.token.sites ≡ s.sites
  pub token_limits : r.token.limits ≡ s.limits
  pub token : r.token.token ≡ t.token
  pub waiting : r.waiting ≡ length t.held
  pub history : r.history.items ≡ []

-- what a site that keeps its history, or doesn't, reports
abbrev pub IsReportOf : Bool → Settings → ModelSite → SiteReport → Type 0
IsReportOf true s t r = IsReport s t r
IsReportOf false s t r = IsReportUnkept s t r

-- memory for the balances of this number of accounts, and for the counts of this number of operations
pub record RoomFor : Type 0 where
  pub accounts : ℕ
  pub entries : ℕ

-- the memory is enough for a report of the site's state
pub record IsEnough (room : RoomFor) (now : SiteState) : Type 0 where
  pub accounts : length now.settings.starts ≤ room.accounts
  pub entries : length now.site.ops ≤ room.entries

-- one report for each site, in their order
abbrev pub AreReports : Settings → List ModelSite → List SiteReport → Type 0
AreReports s [] [] = Unit {0}
AreReports s (t ∷ ts) (r ∷ rs) = IsReport s t r × AreReports s ts rs
AreReports s [] (r ∷ rs) = ⊥
AreReports s (t ∷ ts) [] = ⊥
