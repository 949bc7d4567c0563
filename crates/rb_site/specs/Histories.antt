-- Histories of one world.
use Rattle.std.specs.Prelude.{◌≡◌, ℕ, List, [], ◌∷◌, ◌++◌, ◌⊎◌, map, Some, slice_get}
use Rattle.rb_money.specs.Settings.{Settings}
use Rattle.rb_site.specs.declared.entry.Entry.{Entry}
use Rattle.rb_site.specs.declared.world_event.WorldEvent.{WorldEvent}
use Rattle.rb_site.specs.declared.world_event.WorldEvent.TheVariants.{At, Deliver}
use Rattle.rb_site.specs.declared.event.Event.{Event}
use Rattle.rb_site.specs.declared.event.Event.TheVariants.{Receive}
use Rattle.rb_site.specs.declared.message.Message.{Message}
use Rattle.rb_site.specs.Events.{ModelSite, after_event, first_site, reply_to, sent_at}
use Rattle.rb_site.specs.Worlds.{AreOwn, World, world_of_run}

-- the entries of a list of events: each with its reply
abbrev pub with_replies : Settings → ModelSite → List Event → List Entry
with_replies s t [] = []
with_replies s t (e ∷ es) = (record { event = e; reply = reply_to s t e }) ∷ with_replies s (after_event s t e) es

-- a site's history: its events with their replies
abbrev pub history_of : Settings → ModelSite → List Entry
history_of s t = with_replies s (first_site t.me) t.history

-- the histories of a world's sites
abbrev pub histories_of : Settings → World → List (List Entry)
histories_of s w = map (history_of s) w.sites

-- the site that an event of the world is for
abbrev pub site_of : WorldEvent → ℕ
site_of (At i e) = i
site_of (Deliver i k) = i

-- one world's histories
pub record AreOneWorlds (s : Settings) (hs : List (List Entry)) : Type 0 where
  pub events : List WorldEvent
  pub own : AreOwn events
  pub gives : histories_of s (world_of_run s events) ≡ hs

-- ---- histories that no world has

-- what a site sends through these events
abbrev pub sends_of : Settings → ModelSite → List Event → List Message
sends_of s t [] = []
sends_of s t (e ∷ es) = sent_at s t e ++ sends_of s (after_event s t e) es

-- the events of a history
abbrev pub events_of : List Entry → List Event
events_of h = map (λ (x : Entry). x.event) h

-- the message is one of these
abbrev pub IsAmong : Message → List Message → Type 0
IsAmong m [] = ⊥
IsAmong m (n ∷ ns) = (m ≡ n) ⊎ IsAmong m ns

-- the event is a site's own, or receives one of these messages
abbrev pub IsFrom : List Message → Event → Type 0
IsFrom ms (Receive m) = IsAmong m ms
IsFrom ms _ = Unit {0}

-- no site sends the message in the prefixes of the histories
abbrev pub IsUnsent : Settings → List (List Entry) → Message → Type 0
IsUnsent s fronts m = (j : ℕ) (f : List Entry) → slice_get fronts j ≡ Some f → ¬ IsAmong m (sends_of s (first_site j) (events_of f))

-- what is left begins with the receipt of a message that wasn't sent, if anything is left
abbrev pub IsBlocked : Settings → List (List Entry) → List Entry → Type 0
IsBlocked s fronts [] = Unit {0}
IsBlocked s fronts (x ∷ rest) = (m : Message) × (x.event ≡ Receive m) × IsUnsent s fronts m

-- a site's history goes on after its prefix, and is blocked there
pub record IsCut (s : Settings) (fronts : List (List Entry)) (i : ℕ) (h : List Entry) : Type 0 where
  pub front : List Entry
  pub there : slice_get fronts i ≡ Some front
  pub rest : List Entry
  pub goes_on : h ≡ front ++ rest
  pub blocked : IsBlocked s fronts rest

-- each history is cut where it is blocked, and something is left
pub record IsStuck (s : Settings) (hs fronts : List (List Entry)) : Type 0 where
  pub cut : (i : ℕ) (h : List Entry) → slice_get hs i ≡ Some h → IsCut s fronts i h
  pub site : ℕ
  pub history : List Entry
  pub at : slice_get hs site ≡ Some history
  pub left : ¬ (slice_get fronts site ≡ Some history)

-- stuck histories are not one world's
abbrev pub StuckIsFinal : Type 0
StuckIsFinal = (s : Settings) (hs fronts : List (List Entry)) → IsStuck s hs fronts → ¬ AreOneWorlds s hs
