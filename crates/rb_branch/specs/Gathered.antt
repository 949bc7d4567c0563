-- When histories are made of receipts.
use Rattle.std.specs.Prelude.{◌≡◌, ◌≢◌, ℕ, ◌+◌, ◌<◌, ◌≤◌, ◌^◌, List, [], ◌∷◌, All, ◌==◌, if◌then◌else◌, Some, map, length}
use Rattle.std.specs.Prelude.{slice_get, slice_set, sum_by, vec_len}
use Rattle.rb_money.specs.Settings.{Settings}
use Rattle.rb_money.specs.declared.limits.TheConstants.{MOST_SITES}
use Rattle.rb_branch.specs.declared.gather_fault.GatherFault.{GatherFault}
use Rattle.rb_branch.specs.declared.gather_fault.GatherFault.TheVariants.{Missing, Mixed, OutOfMemory}
use Rattle.rb_branch.specs.declared.receipt.Receipt.{Receipt}
use Rattle.rb_branch.specs.Seats.{SeenSeat}
use Rattle.rb_site.specs.declared.entry.Entry.{Entry}
use Rattle.rb_site.specs.declared.report.SiteReport.{SiteReport}
use Rattle.rb_site.specs.Events.{first_site}
use Rattle.rb_site.specs.Reports.{IsReport}
use Rattle.rb_site.specs.Seen.{SeenSite, Replays, entry, state_of}

-- ---- interleavings

-- nothing is left in any of the lists
abbrev pub AllEmpty : {X : Type 0} → List (List X) → Type 0
AllEmpty {X} lists = (k : ℕ) (l : List X) → slice_get lists k ≡ Some l → l ≡ []

-- each item in turn is the next of one of the lists, and nothing is left in the end: each is there once, and each list
-- in its order
abbrev pub IsInterleaving : {X : Type 0} → List (List X) → List X → Type 0
IsInterleaving lists [] = AllEmpty lists
IsInterleaving {X} lists (x ∷ xs) =
    (k : ℕ) × (rest : List X) × (slice_get lists k ≡ Some (x ∷ rest)) × IsInterleaving (slice_set lists k rest) xs

-- ---- receipts and entries

-- the entries with their numbers, from n on
abbrev pub numbered : ℕ → List Entry → List (ℕ × Entry)
numbered n [] = []
numbered n (e ∷ es) = (n, e) ∷ numbered (n + 1) es

-- the numbered entry that a receipt claims
abbrev pub claim : Receipt → ℕ × Entry
claim r = (r.number, entry r.event r.reply)

-- what a seat claims of a site
abbrev pub claims_at : ℕ → SeenSeat → List (ℕ × Entry)
claims_at site seat = if seat.site == site then map claim seat.receipts else []

-- what each seat claims of a site
abbrev pub claims : ℕ → List SeenSeat → List (List (ℕ × Entry))
claims site seats = map (claims_at site) seats

-- the history of a site is the receipts of its seats, interleaved, by number, event and reply
abbrev pub IsGathered : ℕ → List Entry → List SeenSeat → Type 0
IsGathered site history seats = IsInterleaving (claims site seats) (numbered 1 history)

-- how many receipts there are
abbrev pub receipts_in : List SeenSeat → ℕ
receipts_in seats = sum_by (λ seat. length seat.receipts) seats

-- how many receipts there are of a site
abbrev pub receipts_at : ℕ → List SeenSeat → ℕ
receipts_at site seats = sum_by (λ seat. if seat.site == site then length seat.receipts else 0) seats

-- how many entries there are
abbrev pub entries_in : List SiteReport → ℕ
entries_in reports = sum_by (λ r. vec_len r.history) reports

-- ---- closed sites

-- the site of the configuration that has this number and history
abbrev pub seen : Settings → ℕ → List Entry → SeenSite
seen s me entries = record { settings = s; me = me; entries = entries }

-- the report of a site of this configuration: its history replays and is within its limit, and all else that it reports
-- is the state that the history leads to
pub record IsClosedReport (s : Settings) (r : SiteReport) : Type 0 where
  pub within : r.me < s.sites
  pub replays : Replays s (first_site r.me) r.history.items
  pub room : length r.history.items ≤ s.limits.history
  pub is_report : IsReport s (state_of (seen s r.me r.history.items)) r
  pub few : vec_len r.history < 2 ^ 32

-- a branch whose sites are closed, as clients see it: the reports, and how many seats were given
pub record SeenClosed : Type 0 where
  pub reports : List SiteReport
  pub seats : ℕ

-- one report for each site; the merged share has all parts of the entries, and their number for its amount
pub record AreClosed (s : Settings) (all : ℕ) (reports : List SiteReport) (parts amount : ℕ) : Type 0 where
  pub each : length reports ≡ s.sites
  pub few : length reports ≤ MOST_SITES
  pub closed : All (IsClosedReport s) reports
  pub all_parts : parts ≡ all
  pub counted : amount ≡ entries_in reports

-- ---- what is found

-- each report is of the site of its number, and its history is the receipts of that site's seats, interleaved
abbrev pub AllGathered : List SiteReport → List SeenSeat → Type 0
AllGathered reports seats =
    (k : ℕ) (r : SiteReport) → slice_get reports k ≡ Some r → (r.me ≡ k) × IsGathered k r.history.items seats

-- each of the first n reports is of the site of its number, and its history is the receipts of that site's seats,
-- interleaved
abbrev pub GatheredBefore : ℕ → List SiteReport → List SeenSeat → Type 0
GatheredBefore n reports seats =
    (k : ℕ) → k < n → (r : SiteReport) → slice_get reports k ≡ Some r → (r.me ≡ k) × IsGathered k r.history.items seats

-- the site of a fault is the first at fault: the history of each site before it is the receipts of that site's seats,
-- interleaved
abbrev pub IsFirst : List SiteReport → List SeenSeat → GatherFault → Type 0
IsFirst reports seats (Missing site) = GatheredBefore site reports seats
IsFirst reports seats (Mixed site) = GatheredBefore site reports seats
IsFirst reports seats OutOfMemory = Unit {0}

-- what a fault says: there are fewer receipts than entries, at that site and in all; or its history isn't its seats'
-- receipts, interleaved. Out of memory says nothing
abbrev pub Explains : List SiteReport → List SeenSeat → GatherFault → Type 0
Explains reports seats (Missing site) =
    (r : SiteReport) × (slice_get reports site ≡ Some r) × (receipts_at site seats < vec_len r.history)
    × (receipts_in seats < entries_in reports)
Explains reports seats (Mixed site) =
    (r : SiteReport) × (slice_get reports site ≡ Some r) × ¬ IsGathered site r.history.items seats
Explains reports seats OutOfMemory = Unit {0}

-- a fault that closed sites of this configuration explain, beside the seats that were given back: it is of the first
-- site at fault, and if every seat was given back, none is missing
pub record IsGatherFault (s : Settings) (seats : List SeenSeat) (fault : GatherFault) : Type 0 where
  pub closed : SeenClosed
  pub all : length closed.reports ≡ s.sites
  pub replayed : All (IsClosedReport s) closed.reports
  pub explains : Explains closed.reports seats fault
  pub first : IsFirst closed.reports seats fault
  pub every : length seats ≡ closed.seats → (site : ℕ) → fault ≢ Missing site
