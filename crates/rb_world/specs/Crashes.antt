-- Worlds whose sites crash, and restart from their disks.
use Rattle.std.specs.Prelude.{◌≡◌, ℕ, ◌+◌, ◌≤◌, if◌then◌else◌, nat_le, Some}
use Rattle.std.specs.Prelude.{List, [], ◌∷◌, ◌++◌, length, take, replicate, slice_get, slice_set}
use Rattle.rb_money.specs.Settings.{Settings}
use Rattle.rb_site.specs.declared.entry.Entry.{Entry}
use Rattle.rb_site.specs.declared.event.Event.{Event}
use Rattle.rb_site.specs.declared.event.Event.TheVariants.{Receive}
use Rattle.rb_site.specs.declared.message.Message.{Message}
use Rattle.rb_site.specs.Events.{ModelSite, after_events, first_site}
use Rattle.rb_site.specs.Histories.{IsAmong, sends_of, with_replies}
use Rattle.rb_site.specs.Worlds.{IsOwn}

-- ---- sites with disks

-- a site with a disk: the events that it has recorded, how many of them are on its disk, and how many it has reported.
-- An event is reported once its reply or any of its messages may have gone out
pub record DiskSite : Type 0 where
  pub events : List Event
  pub on_disk : ℕ
  pub reported : ℕ

-- a world of such sites, one for each number, before any event
abbrev pub first_disks : Settings → List DiskSite
first_disks s = replicate s.sites (record { events = []; on_disk = 0; reported = 0 })

-- a site sent the message by one of the events that it has
pub record IsSent (s : Settings) (w : List DiskSite) (m : Message) : Type 0 where
  pub number : ℕ
  pub site : DiskSite
  pub at : slice_get w number ≡ Some site
  pub sent : IsAmong m (sends_of s (first_site number) site.events)

-- the histories of sites, the first of which has the number i: each one's events with their replies
abbrev pub histories_from : Settings → ℕ → List DiskSite → List (List Entry)
histories_from s i [] = []
histories_from s i (d ∷ ds) = with_replies s (first_site i) d.events ∷ histories_from s (i + 1) ds

-- the model's sites, the first of which has the number i: each is the run of its events
abbrev pub sites_from : Settings → ℕ → List DiskSite → List ModelSite
sites_from s i [] = []
sites_from s i (d ∷ ds) = after_events s (first_site i) d.events ∷ sites_from s (i + 1) ds

-- ---- steps

-- what happens at a site
pub data DiskStep : Type 0 where
  -- an event of its own
  Acts : (e : Event) → DiskStep
  -- a message is delivered
  Receives : (m : Message) → DiskStep
  -- its first n events have reached its disk
  Syncs : (n : ℕ) → DiskStep
  -- its first n events have been reported
  Reports : (n : ℕ) → DiskStep
  -- it crashes, and restarts from its first n events
  Restarts : (n : ℕ) → DiskStep

-- what a step needs at its site alone: messages come by deliveries alone; only what is on the disk is reported; and a
-- crash takes nothing from the disk
abbrev pub MayHappenAlone : DiskSite → DiskStep → Type 0
MayHappenAlone d (Acts e) = IsOwn e
MayHappenAlone d (Receives m) = Unit {0}
MayHappenAlone d (Syncs n) = (d.on_disk ≤ n) × (n ≤ length d.events)
MayHappenAlone d (Reports n) = (d.reported ≤ n) × (n ≤ d.on_disk)
MayHappenAlone d (Restarts n) = (d.on_disk ≤ n) × (n ≤ length d.events)

-- what it needs of the world: only a message that a site sent by one of the events that it has reported is delivered
abbrev pub WasReported : Settings → List DiskSite → DiskStep → Type 0
WasReported s w (Receives m) =
    (i : ℕ) × (d : DiskSite) × (slice_get w i ≡ Some d) × IsAmong m (sends_of s (first_site i) (take d.reported d.events))
WasReported s w _ = Unit {0}

-- the site with one event more, unless its history is full
abbrev pub with_event : Settings → DiskSite → Event → DiskSite
with_event s d e = if nat_le s.limits.history (length d.events) then d else record d { events = d.events ++ e ∷ [] }

-- the site after a step; after a restart all that it has is on its disk
abbrev pub after_step : Settings → DiskSite → DiskStep → DiskSite
after_step s d (Acts e) = with_event s d e
after_step s d (Receives m) = with_event s d (Receive m)
after_step s d (Syncs n) = record d { on_disk = n }
after_step s d (Reports n) = record d { reported = n }
after_step s d (Restarts n) = record d { events = take n d.events; on_disk = n }

-- the site after a list of steps
abbrev pub after_steps : Settings → DiskSite → List DiskStep → DiskSite
after_steps s d [] = d
after_steps s d (step ∷ steps) = after_steps s (after_step s d step) steps

-- each step of a list may happen at the site alone, when it is taken
abbrev pub MayAllHappen : Settings → DiskSite → List DiskStep → Type 0
MayAllHappen s d [] = Unit {0}
MayAllHappen s d (step ∷ steps) = MayHappenAlone d step × MayAllHappen s (after_step s d step) steps

-- one step of a world, which may happen at one of its sites
pub record TakesStep (s : Settings) (w v : List DiskSite) : Type 0 where
  pub number : ℕ
  pub site : DiskSite
  pub at : slice_get w number ≡ Some site
  pub step : DiskStep
  pub may : MayHappenAlone site step
  pub reported : WasReported s w step
  pub is : v ≡ slice_set w number (after_step s site step)

-- some steps lead from one world to another
pub data Leads (s : Settings) : List DiskSite → List DiskSite → Type 0 where
  Stays : {w : List DiskSite} → Leads s w w
  Goes : {u v w : List DiskSite} → TakesStep s u v → Leads s v w → Leads s u w
