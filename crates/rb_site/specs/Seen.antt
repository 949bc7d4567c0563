-- A site as clients see it: its configuration, its number and its history. All else is the run of the history.
use Rattle.std.specs.Prelude.{◌≡◌, ℕ, ◌<◌, ◌≤◌, if◌then◌else◌, List, [], ◌∷◌, ◌++◌, length}
use Rattle.rb_money.specs.Settings.{Settings}
use Rattle.rb_site.specs.declared.entry.Entry.{Entry}
use Rattle.rb_site.specs.declared.event.Event.{Event}
use Rattle.rb_site.specs.declared.reply.Reply.{Reply}
use Rattle.rb_site.specs.Events.{ModelSite, after_event, after_events, first_site, is_full, reply_to}
use Rattle.rb_site.specs.Histories.{events_of}

-- the configuration, the site's number, and its events with their replies
pub record SeenSite : Type 0 where
  pub settings : Settings
  pub me : ℕ
  pub entries : List Entry

-- a site before any event
abbrev pub first_seen : Settings → ℕ → SeenSite
first_seen s me = record { settings = s; me = me; entries = [] }

-- an event with its reply
abbrev pub entry : Event → Reply → Entry
entry e reply = record { event = e; reply = reply }

-- a site's state: what the run of its events leads to
abbrev pub state_of : SeenSite → ModelSite
state_of x = after_events x.settings (first_site x.me) (events_of x.entries)

-- the site with one event more, for a history that isn't full
abbrev pub stepped : SeenSite → Event → SeenSite
stepped x e = record x { entries = x.entries ++ entry e (reply_to x.settings (state_of x) e) ∷ [] }

-- each reply is the one that the run gives there
abbrev pub Replays : Settings → ModelSite → List Entry → Type 0
Replays s t [] = Unit {0}
Replays s t (x ∷ xs) = (x.reply ≡ reply_to s t x.event) × Replays s (after_event s t x.event) xs

-- what a site keeps: it is one of the configuration, its history replays and is within its limit
pub record IsReplayed (x : SeenSite) : Type 0 where
  pub within : x.me < x.settings.sites
  pub replays : Replays x.settings (first_site x.me) x.entries
  pub room : length x.entries ≤ x.settings.limits.history

-- the site with one event more, or as it is if its history is full
abbrev pub next_site : SeenSite → Event → SeenSite
next_site x e = if is_full x.settings (state_of x) then x else stepped x e

-- the site after a list of events
abbrev pub next_sites : SeenSite → List Event → SeenSite
next_sites x [] = x
next_sites x (e ∷ es) = next_sites (next_site x e) es
