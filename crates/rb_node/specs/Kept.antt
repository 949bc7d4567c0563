-- Requests that a site made by an id, as it keeps them: the event, and which of its operations it made.
use Rattle.std.specs.Prelude.{◌≡◌, ℕ, if◌then◌else◌, List, [], ◌∷◌, ◌++◌, bytes_eq, length, map, Option, Some, None}
use Rattle.std.specs.Map.{lookup}
use Rattle.std.specs.declared.alloc.Global.{Global}
use Rattle.std.specs.declared.vec.Vec.{Vec}
use Rattle.rb_money.specs.Settings.{Settings}
use Rattle.rb_shadow.specs.Labels.{label_of}
use Rattle.rb_shadow.specs.declared.op_name.OpName.{OpName}
use Rattle.rb_shadow.specs.declared.shadow.Shadow.{Shadow}
use Rattle.rb_site.specs.declared.event.Event.{Event}
use Rattle.rb_site.specs.declared.event.Event.TheVariants.{Submit}
use Rattle.rb_site.specs.declared.message.Message.{Message}
use Rattle.rb_site.specs.declared.message.Message.TheVariants.{Shadow as ShadowMessage, Token as TokenOnItsWay}
use Rattle.rb_site.specs.declared.reply.Reply.{Reply}
use Rattle.rb_site.specs.declared.reply.Reply.TheVariants.{Made, Names as NamesMade}
use Rattle.rb_site.specs.Events.{ModelSite, after_event, first_site}
use Rattle.rb_site.specs.Seen.{Replays, SeenSite, entry}
use Rattle.rb_history.specs.Ids.{AskedEntry, may_be_asked}
use Rattle.rb_node.specs.Asked.{Known, SeenAsked, asked_state, entries_alone, known_of, with_id}
use Rattle.rb_node.specs.Index.{messages_of}
use Rattle.rb_node.specs.declared.erased_asked.ErasedAsked.{ErasedAsked}
use Rattle.rb_node.specs.declared.known_request.KnownRequest.{KnownRequest}
use Rattle.rb_node.specs.declared.sent_entry.Sending.TheVariants.{Operations}

-- an entry of which nothing is kept
abbrev pub entry_erased : ErasedAsked → AskedEntry
entry_erased x = with_id x.id.value (record { event = x.event.value; reply = x.reply.value })

-- ---- the requests that are kept

-- requests with their ids
abbrev pub Requests : Type 0
Requests = List (List ℕ × KnownRequest)

-- the requests of a map, by the bytes of their keys
abbrev pub by_bytes : List (Vec ℕ Global × KnownRequest) → Requests
by_bytes es = map (λ (e : Vec ℕ Global × KnownRequest). (e.0.items, e.1)) es

-- the first request of an id
abbrev pub find_request : List ℕ → Requests → Option KnownRequest
find_request id ks = lookup (bytes_eq id) ks

-- a request as it is kept: its event, and how many operations were applied before it and with it
abbrev pub request : Event → ℕ → ℕ → KnownRequest
request e first end = record { event = e; first = first; end = end }

-- the request of an entry, if it has an id
abbrev pub kept_if_asked : List ℕ → Event → ℕ → ℕ → Requests
kept_if_asked [] e first end = []
kept_if_asked (b ∷ bs) e first end = (b ∷ bs, request e first end) ∷ []

-- the requests among entries that have an id, from a site's state on
abbrev pub kept_from : Settings → ModelSite → List AskedEntry → Requests
kept_from s t [] = []
kept_from s t (x ∷ xs) = kept_if_asked x.id x.entry.event (length t.ops) (length (after_event s t x.entry.event).ops)
    ++ kept_from s (after_event s t x.entry.event) xs

-- the request that is noted of an id and an event, if there is an id and the reply is no refusal
abbrev pub request_noted : Option (Vec ℕ Global × Event) → Reply → ℕ → ℕ → Requests
request_noted None reply first end = []
request_noted (Some p) reply first end =
    if may_be_asked (entry p.1 reply) then (p.0.items, request p.1 first end) ∷ [] else []

-- what is kept of a site: its entries with their ids, which replay, and the requests among them
pub record IsKeeping (site : SeenSite) (asked : List AskedEntry) (kept : Requests) : Type 0 where
  pub entries : entries_alone asked ≡ site.entries
  pub replays : Replays site.settings (first_site site.me) site.entries
  pub requests : kept ≡ kept_from site.settings (first_site site.me) asked

-- ---- the answer to a request that is kept

-- the names of the operations of messages
abbrev pub names_sent : List Message → List OpName
names_sent [] = []
names_sent (ShadowMessage v ∷ ms) = v.name ∷ names_sent ms
names_sent (TokenOnItsWay m ∷ ms) = names_sent ms

-- the reply to a request that was made and sent these messages: to one by itself by its operation, and to a batch by
-- the names
abbrev pub reply_made : Event → List Message → Reply
reply_made (Submit r) (ShadowMessage v ∷ ms) = Made v.name (label_of v.kind)
reply_made _ ms = NamesMade (names_sent ms)

-- a request that is kept, with its reply and its messages, at a site that applied these operations
abbrev pub known_again : List Shadow → KnownRequest → Known
known_again us kept = record {
  event = kept.event;
  reply = reply_made kept.event (messages_of us (Operations kept.first kept.end));
  sent = messages_of us (Operations kept.first kept.end);
}

-- the request of a known id is this one
abbrev pub IsKeptAs : SeenAsked → List ℕ → KnownRequest → Type 0
IsKeptAs x id kept = known_of x id ≡ Some (known_again (asked_state x).ops kept)
