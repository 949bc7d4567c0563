-- Entries of histories taken one after another.
use Rattle.std.specs.Prelude.{◌≡◌, ℕ, ◌+◌, ◌-◌, ◌<◌, ◌≤◌, List, [], ◌∷◌, ◌++◌, length, map, take, drop, replicate, Some}
use Rattle.std.specs.Prelude.{slice_get, slice_set}
use Rattle.rb_money.specs.Settings.{Settings}
use Rattle.rb_site.specs.declared.entry.Entry.{Entry}
use Rattle.rb_site.specs.declared.event.Event.TheVariants.{Receive}
use Rattle.rb_site.specs.declared.message.Message.{Message}
use Rattle.rb_site.specs.declared.world_event.WorldEvent.{WorldEvent}
use Rattle.rb_site.specs.Events.{ModelSite, after_events, first_site, sent_at}
use Rattle.rb_site.specs.Histories.{IsAmong, IsFrom, events_of, site_of, sends_of}
use Rattle.rb_site.specs.Worlds.{AreOwn, World, first_world, world_of_run}
use Rattle.rb_auditor.specs.Certificates.{AllRecorded}
use Rattle.rb_auditor.specs.Findings.{IsReplay}

-- histories, the order in which entries were taken, how many of each history, and the messages that these sent
pub record Progress : Type 0 where
  pub settings : Settings
  pub histories : List (List Entry)
  pub order : List ℕ
  pub taken : List ℕ
  pub messages : List Message

-- a site after these entries
abbrev pub site_after : Settings → ℕ → List Entry → ModelSite
site_after s i h = after_events s (first_site i) (events_of h)

-- the sites from i on, each after this number of entries of its history
abbrev pub sites_after : Settings → ℕ → List (List Entry) → List ℕ → List ModelSite
sites_after s i [] ks = []
sites_after s i (h ∷ hs) [] = []
sites_after s i (h ∷ hs) (k ∷ ks) = site_after s i (take k h) ∷ sites_after s (i + 1) hs ks

-- the world in which the entries so far were taken
abbrev pub world_of : Progress → World
world_of p = record { sites = sites_after p.settings 0 p.histories p.taken; messages = p.messages }

-- the entries of each history that were taken
abbrev pub fronts_of : List (List Entry) → List ℕ → List (List Entry)
fronts_of [] ks = []
fronts_of (h ∷ hs) [] = []
fronts_of (h ∷ hs) (k ∷ ks) = take k h ∷ fronts_of hs ks

-- before any entry is taken
abbrev pub first_progress : Settings → List (List Entry) → Progress
first_progress s hs = record { settings = s; histories = hs; order = []; taken = replicate (length hs) 0; messages = [] }

-- the next entry of the history i is x, after k others
pub record IsNextEntry (p : Progress) (i k : ℕ) (h : List Entry) (x : Entry) : Type 0 where
  pub there : slice_get p.histories i ≡ Some h
  pub at : slice_get p.taken i ≡ Some k
  pub next : slice_get h k ≡ Some x

-- the progress with that entry taken too
abbrev pub taken_next : Progress → ℕ → ℕ → List Entry → Entry → Progress
taken_next p i k h x = record p {
  order = p.order ++ i ∷ [];
  taken = slice_set p.taken i (k + 1);
  messages = p.messages ++ sent_at p.settings (site_after p.settings i (take k h)) x.event;
}

-- the next entry of the history i was taken
pub record Took (p q : Progress) (i : ℕ) : Type 0 where
  pub taken : ℕ
  pub history : List Entry
  pub entry : Entry
  pub next : IsNextEntry p i taken history entry
  pub source : IsFrom p.messages entry.event
  pub is : q ≡ taken_next p i taken history entry

-- nothing is left, or the next entry can't come yet
abbrev pub IsHeldUp : List Message → List Entry → Type 0
IsHeldUp ms [] = Unit {0}
IsHeldUp ms (x ∷ rest) = (m : Message) × (x.event ≡ Receive m) × ¬ IsAmong m ms

-- no entry of the history i can be taken now
pub record Rests (p : Progress) (i : ℕ) : Type 0 where
  pub taken : ℕ
  pub history : List Entry
  pub there : slice_get p.histories i ≡ Some history
  pub at : slice_get p.taken i ≡ Some taken
  pub held : IsHeldUp p.messages (drop taken history)

-- a run of a world's own events leads to this world; each is recorded, and the order is that of their sites
pub record IsReached (s : Settings) (order : List ℕ) (w : World) : Type 0 where
  pub events : List WorldEvent
  pub own : AreOwn events
  pub sites : map site_of events ≡ order
  pub recorded : AllRecorded s (first_world s) events
  pub gives : world_of_run s events ≡ w

-- the entries were taken as a world could have recorded them
pub record IsTaking (p : Progress) : Type 0 where
  pub sites : length p.histories ≡ p.settings.sites
  pub counts : length p.taken ≡ length p.histories
  pub replays : (i : ℕ) (h : List Entry) → slice_get p.histories i ≡ Some h → IsReplay p.settings i h
  pub within : (i k : ℕ) (h : List Entry) → slice_get p.histories i ≡ Some h → slice_get p.taken i ≡ Some k → k ≤ length h
  pub sent : (i k : ℕ) (h : List Entry) → slice_get p.histories i ≡ Some h → slice_get p.taken i ≡ Some k → (m : Message)
      → IsAmong m (sends_of p.settings (first_site i) (events_of (take k h))) → IsAmong m p.messages
  pub reached : IsReached p.settings p.order (world_of p)

-- all entries were taken
abbrev pub IsDone : Progress → Type 0
IsDone p = (i k : ℕ) (h : List Entry) → slice_get p.histories i ≡ Some h → slice_get p.taken i ≡ Some k → k ≡ length h

-- an entry is left
pub record IsLeft (p : Progress) : Type 0 where
  pub site : ℕ
  pub taken : ℕ
  pub history : List Entry
  pub there : slice_get p.histories site ≡ Some history
  pub at : slice_get p.taken site ≡ Some taken
  pub less : taken < length history

-- how many entries are left
abbrev pub left_of : List (List Entry) → List ℕ → ℕ
left_of [] ks = 0
left_of (h ∷ hs) [] = 0
left_of (h ∷ hs) (k ∷ ks) = (length h - k) + left_of hs ks

-- more entries of the same histories were taken
pub record IsFurther (p q : Progress) : Type 0 where
  pub settings : q.settings ≡ p.settings
  pub histories : q.histories ≡ p.histories
  pub less : left_of q.histories q.taken < left_of p.histories p.taken

-- no entry can be taken now
abbrev pub AllRest : Progress → Type 0
AllRest p = (i : ℕ) → i < length p.histories → Rests p i
