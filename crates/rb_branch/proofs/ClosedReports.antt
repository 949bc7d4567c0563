-- The report of a desk's site that is closed.
use Rattle.std.proofs.Common.{◌≡◌, ℕ, ◌<◌, ◌≤◌, ◌^◌, List, length, vec_len, sym, ap, arith, ◌∙◌, subst}
use Rattle.rb_money.specs.Settings.{Settings}
use Rattle.rb_site.specs.declared.entry.Entry.{Entry}
use Rattle.rb_site.specs.declared.report.SiteReport.{SiteReport}
use Rattle.rb_site.specs.Events.{first_site}
use Rattle.rb_site.specs.Reports.{IsReport}
use Rattle.rb_site.specs.Seen.{IsReplayed, Replays, SeenSite, state_of}
use Rattle.rb_site.proofs.Public.Seen
use Rattle.rb_branch.specs.Gathered.{IsClosedReport, seen}
use Rattle.rb_branch.specs.Seats.{IsDesk}

-- a desk's site keeps what a site keeps
pub kept : (s : Settings) (x : SeenSite) (parts amount : ℕ) → IsDesk s x parts amount → IsReplayed x
kept s x parts amount desk = record {
  within = subst (λ (t : Settings). x.me < t.sites) (sym desk.settings) desk.within;
  replays = subst (λ (t : Settings). Replays t (first_site x.me) x.entries) (sym desk.settings) desk.replays;
  room = subst (λ (t : Settings). length x.entries ≤ t.limits.history) (sym desk.settings) desk.room;
}

-- the report's history is the site's
pub report_history : (s : Settings) (x : SeenSite) (parts amount : ℕ) (r : SiteReport) → IsDesk s x parts amount
    → IsReport x.settings (state_of x) r → r.history.items ≡ x.entries
report_history s x parts amount r desk report = report.history ∙ Seen.entries-state x (kept s x parts amount desk)

-- what a site's report says, said of the configuration, the number and the history that it shows
pub closed_report : (s : Settings) (x : SeenSite) (parts amount : ℕ) (r : SiteReport) → IsDesk s x parts amount
    → IsReport x.settings (state_of x) r → IsClosedReport s r
closed_report s x parts amount r desk report =
    let P : Settings → ℕ → List Entry → Type 0 = λ t i h.
    (i < t.sites) × Replays t (first_site i) h × (length h ≤ t.limits.history) × IsReport t (state_of (seen t i h)) r in
    let is = kept s x parts amount desk in
    let there : P x.settings x.me x.entries = (is.within, is.replays, is.room, report) in
    let same = report_history s x parts amount r desk report in
    let me : r.me ≡ x.me = report.me ∙ Seen.me-state x in
    let shown : P s r.me r.history.items = subst (λ (t : Settings). P t r.me r.history.items) desk.settings
    (subst (λ (i : ℕ). P x.settings i r.history.items) (sym me) (subst (P x.settings x.me) (sym same) there)) in
    let few : vec_len r.history < 2 ^ 32 = omega (arith, desk.few, ap length same, r.history.ok.0) in
    record { within = shown.0; replays = shown.1; room = shown.2; is_report = shown.3; few = few }
