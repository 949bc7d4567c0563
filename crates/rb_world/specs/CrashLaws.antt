-- Laws of every world whose sites crash.
use Rattle.std.specs.Prelude.{◌≡◌, ℕ, ◌<◌, ◌≤◌, ◌↔◌, List, [], ◌∷◌, ◌++◌, length, take, Some, slice_get, slice_set}
use Rattle.rb_money.specs.Settings.{Settings}
use Rattle.rb_money.specs.declared.limits.TheConstants.{MOST_SITES}
use Rattle.rb_site.specs.declared.entry.Entry.{Entry}
use Rattle.rb_site.specs.declared.event.Event.{Event}
use Rattle.rb_site.specs.declared.message.Message.{Message}
use Rattle.rb_site.specs.declared.world_event.WorldEvent.{WorldEvent}
use Rattle.rb_site.specs.Events.{ModelSite, after_event, first_site, reply_to, sent_at}
use Rattle.rb_site.specs.Histories.{AreOneWorlds, IsAmong}
use Rattle.rb_site.specs.Seen.{entry}
use Rattle.rb_site.specs.Worlds.{AreOwn, World, world_of_run}
use Rattle.rb_world.specs.Laws.{Headline, OtherLaws}
use Rattle.rb_world.specs.Crashes.{DiskSite, IsSent, Leads, Restarts, TakesStep, after_step, first_disks}
use Rattle.rb_world.specs.Crashes.{histories_from, sites_from}

-- a law of every world that steps lead to
abbrev pub AfterSteps : (Settings → List DiskSite → Type 0) → Type 0
AfterSteps P = (s : Settings) (w : List DiskSite) → Leads s (first_disks s) w → P s w

-- ---- crashes are invisible

-- the sites' histories are one world's, in which nothing crashed
abbrev pub HidesCrashes : Settings → List DiskSite → Type 0
HidesCrashes s w = AreOneWorlds s (histories_from s 0 w)

-- a world in which nothing crashed, with just these sites and just the messages that they sent
pub record IsWorldOf (s : Settings) (w : List DiskSite) : Type 0 where
  pub events : List WorldEvent
  pub own : AreOwn events
  pub sites : (world_of_run s events).sites ≡ sites_from s 0 w
  pub sent : (m : Message) → IsAmong m (world_of_run s events).messages ↔ IsSent s w m

-- at 1 to MOST_SITES sites the headline holds of a world with just these sites and just the messages that they sent
abbrev pub HeadlineHolds : Settings → List DiskSite → Type 0
HeadlineHolds s w = 1 ≤ s.sites → s.sites ≤ MOST_SITES →
    (v : World) × (v.sites ≡ sites_from s 0 w) × ((m : Message) → IsAmong m v.messages ↔ IsSent s w m) × Headline s v

-- there all laws of worlds hold of such a world in which nothing crashed
abbrev pub AllLawsHold : Settings → List DiskSite → Type 0
AllLawsHold s w = 1 ≤ s.sites → s.sites ≤ MOST_SITES →
    (x : IsWorldOf s w) × Headline s (world_of_run s x.events) × OtherLaws s (world_of_run s x.events)

-- ---- nothing reported is lost

-- what is reported of an event: its entry in the history, with its reply, and the messages that it sent
pub record EventReport : Type 0 where
  pub entry : Entry
  pub sends : List Message

-- the reports of a list of events
abbrev pub reports_of : Settings → ModelSite → List Event → List EventReport
reports_of s t [] = []
reports_of s t (e ∷ es) =
    (record { entry = entry e (reply_to s t e); sends = sent_at s t e }) ∷ reports_of s (after_event s t e) es

-- those of all events that site i has, reported or not
abbrev pub reports_at : Settings → ℕ → DiskSite → List EventReport
reports_at s i d = reports_of s (first_site i) d.events

-- those that site i has reported
abbrev pub reported_at : Settings → ℕ → DiskSite → List EventReport
reported_at s i d = take d.reported (reports_at s i d)

-- the first list is a prefix of the second
abbrev pub IsPrefix : {X : Type 0} → List X → List X → Type 0
IsPrefix {X} xs ys = (more : List X) × (ys ≡ xs ++ more)

-- a later world has the site i still, and what it had reported is a prefix of its history and of what it has reported
pub record IsKeptAt (s : Settings) (i : ℕ) (d : DiskSite) (later : List DiskSite) : Type 0 where
  pub site : DiskSite
  pub at : slice_get later i ≡ Some site
  pub history : IsPrefix (reported_at s i d) (reports_at s i site)
  pub reported : IsPrefix (reported_at s i d) (reported_at s i site)

-- what a site has reported it keeps, whatever steps are taken next
abbrev pub KeepsTheReported : Settings → List DiskSite → Type 0
KeepsTheReported s w = (i : ℕ) (d : DiskSite) → slice_get w i ≡ Some d → (later : List DiskSite) → Leads s w later →
    IsKeptAt s i d later

-- what is reported is on the disk, what is on the disk was recorded, and the history is within its limit
pub record IsBounded (s : Settings) (d : DiskSite) : Type 0 where
  pub reported : d.reported ≤ d.on_disk
  pub on_disk : d.on_disk ≤ length d.events
  pub within : length d.events ≤ s.limits.history

-- the same of each site
abbrev pub ReportsTheDurable : Settings → List DiskSite → Type 0
ReportsTheDurable s w = (i : ℕ) (d : DiskSite) → slice_get w i ≡ Some d → IsBounded s d

-- ---- what crashes do

-- a restart from fewer events than were reported loses some of what was
abbrev pub ForgetsTheReported : Type 0
ForgetsTheReported = (s : Settings) (i n : ℕ) (d : DiskSite) → n < d.reported → d.reported ≤ length d.events →
    ¬ IsPrefix (reported_at s i d) (reports_at s i (after_step s d (Restarts n)))

-- a crash that takes events from a site which reported some
pub record LosesEvents (s : Settings) : Type 0 where
  pub before : List DiskSite
  pub after : List DiskSite
  pub led : Leads s (first_disks s) before
  pub crash : TakesStep s before after
  pub kept : ℕ
  pub restarts : crash.step ≡ Restarts kept
  pub reported : 1 ≤ crash.site.reported
  pub lost : kept < length crash.site.events

-- wherever histories may have two entries, some crash takes events away
abbrev pub CrashesLoseEvents : Type 0
CrashesLoseEvents = (s : Settings) → 1 ≤ s.sites → 2 ≤ s.limits.history → LosesEvents s

-- a restart from fewer events than were reported, after which the sites' histories are no world's
pub record ShowsACrash (s : Settings) : Type 0 where
  pub world : List DiskSite
  pub led : Leads s (first_disks s) world
  pub number : ℕ
  pub site : DiskSite
  pub at : slice_get world number ≡ Some site
  pub kept : ℕ
  pub fewer : kept < site.reported
  pub shows : ¬ HidesCrashes s (slice_set world number (after_step s site (Restarts kept)))

-- wherever two sites may pass the token and record it, there is such a restart
abbrev pub DeeperCrashesShow : Type 0
DeeperCrashesShow = (s : Settings) → 2 ≤ s.sites → 1 ≤ s.limits.history → 1 ≤ s.limits.epoch → ShowsACrash s
