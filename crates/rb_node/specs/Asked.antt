-- A site whose entries may have ids, and what it keeps of the requests that were asked for by an id.
use Rattle.std.specs.Prelude.{◌≡◌, ℕ, if◌then◌else◌, List, [], ◌∷◌, ◌++◌, bytes_eq, map, Option, Some, None}
use Rattle.rb_money.specs.Settings.{Settings}
use Rattle.rb_site.specs.declared.entry.Entry.{Entry}
use Rattle.rb_site.specs.declared.event.Event.{Event}
use Rattle.rb_site.specs.declared.event.Event.TheVariants.{Submit, Batch}
use Rattle.rb_site.specs.declared.message.Message.{Message}
use Rattle.rb_site.specs.declared.reply.Reply.{Reply}
use Rattle.rb_site.specs.Events.{ModelSite, after_event, first_site, sent_at}
use Rattle.rb_site.specs.Seen.{SeenSite, state_of}
use Rattle.rb_history.specs.Ids.{AskedEntry, may_be_asked}
use Rattle.rb_node.specs.declared.kept_requests.KeptRequests.{KeptRequests}
use Rattle.rb_node.specs.declared.kept_requests.KeptRequests.TheVariants.{One, All}

-- ---- the site

-- the configuration, the site's number, the name of its bank (no bytes if it has none), and its entries with their ids
pub record SeenAsked : Type 0 where
  pub settings : Settings
  pub me : ℕ
  pub bank : List ℕ
  pub asked : List AskedEntry

-- a site before any event
abbrev pub first_asked : Settings → ℕ → List ℕ → SeenAsked
first_asked s me bank = record { settings = s; me = me; bank = bank; asked = [] }

-- the entries, their ids left out
abbrev pub entries_alone : List AskedEntry → List Entry
entries_alone xs = map (λ (x : AskedEntry). x.entry) xs

-- the site, the ids of its entries left out
abbrev pub without_ids : SeenAsked → SeenSite
without_ids x = record { settings = x.settings; me = x.me; entries = entries_alone x.asked }

-- the state that the run of its events leads to
abbrev pub asked_state : SeenAsked → ModelSite
asked_state x = state_of (without_ids x)

-- the site with more entries
abbrev pub with_more : SeenAsked → List AskedEntry → SeenAsked
with_more x more = record x { asked = x.asked ++ more }

-- an entry of an event with this id, or of what was applied after it: it has the id only if it may have one
abbrev pub with_id : List ℕ → Entry → AskedEntry
with_id id x = record { id = if may_be_asked x then id else []; entry = x }

-- no id is that of two entries
abbrev pub AreIdsOnce : List AskedEntry → Type 0
AreIdsOnce xs = (before between later : List AskedEntry) (x y : AskedEntry) → xs ≡ before ++ x ∷ (between ++ y ∷ later)
    → x.id ≡ y.id → x.id ≡ []

-- ---- known requests

-- the event of these requests
abbrev pub event_kept : KeptRequests → Event
event_kept (One r) = Submit r
event_kept (All rs) = Batch rs

-- a request that was made: its event, the reply to it, and the messages that it sent
pub record Known : Type 0 where
  pub event : Event
  pub reply : Reply
  pub sent : List Message

-- the first request of an id among entries, from a site's state on
abbrev pub known_from : Settings → ModelSite → List AskedEntry → List ℕ → Option Known
known_from s t [] id = None
known_from s t (x ∷ xs) id =
    if bytes_eq x.id id then Some (record { event = x.entry.event; reply = x.entry.reply; sent = sent_at s t x.entry.event })
    else known_from s (after_event s t x.entry.event) xs id

-- the request of an id that a site made: none if there is no id, or the id isn't known
abbrev pub known_of : SeenAsked → List ℕ → Option Known
known_of x [] = None
known_of x (b ∷ bs) = known_from x.settings (first_site x.me) x.asked (b ∷ bs)
