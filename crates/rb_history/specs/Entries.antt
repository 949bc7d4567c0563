-- Lines of histories: a JSON object of an event, its reply and the site's number.
use Rattle.std.specs.Prelude.{ℕ, ◌==◌, List, [], Option, Some, None, codes, unwrap_or, if◌then◌else◌, option_and_then, option_map}
use Rattle.std.specs.Prelude.{slice_get}
use Rattle.std.specs.Str.{is_utf8}
use Rattle.serde_json.specs.Data.{Data, string, object, Members, member, no_members}
use Rattle.serde_json.specs.Read.{read}
use Rattle.rb_money.specs.Settings.{Settings}
use Rattle.rb_money.specs.declared.place.Place.{Place}
use Rattle.rb_scratch.specs.declared.request.Request.{Request}
use Rattle.rb_scratch.specs.declared.request.Request.TheVariants.{Deposit, Withdraw, Interest, Cancel, Transfer}
use Rattle.rb_shadow.specs.Labels.{label_of}
use Rattle.rb_history.specs.KindWords.{word_of}
use Rattle.rb_shadow.specs.declared.deps.Deps.{Deps}
use Rattle.rb_shadow.specs.declared.kind.Kind.{Kind}
use Rattle.rb_shadow.specs.declared.kind.Kind.TheVariants.{Cancel as CancelKind, Transfer as TransferKind}
use Rattle.rb_shadow.specs.declared.shadow.Shadow.{Shadow}
use Rattle.rb_site.specs.declared.entry.Entry.{Entry}
use Rattle.rb_site.specs.declared.event.Event.{Event}
use Rattle.rb_site.specs.declared.event.Event.TheVariants.{Submit, Batch, Receive, Apply, Pass, Balance, AsOf, Statement}
use Rattle.rb_site.specs.declared.message.Message.TheVariants.{Shadow as ShadowMessage, Token as TokenOnItsWay}
use Rattle.rb_token.specs.declared.message.TokenMessage.{TokenMessage}
use Rattle.rb_history.specs.Counts.{blue_json}
use Rattle.rb_history.specs.Ids.{AskedEntry, AskedEvent, id_at, id_member, may_be_asked, may_have_id}
use Rattle.rb_history.specs.Recorded.{event_at, recorded_of}
use Rattle.rb_history.specs.RepliesRead.{reply_parsed}
use Rattle.rb_history.specs.Replies.{reply_json}
use Rattle.rb_history.specs.Values.{list_json, name_json, number_below, number_json, one_json, pair_json, size_of, three_json}
use Rattle.rb_history.specs.Fields.{field}

-- ---- what is written

-- an account's name, or "?" if the configuration has no account at the place
abbrev pub account_json : Settings → Place → Data
account_json s a = string (unwrap_or (slice_get s.names a.0) (codes "?"))

-- an account and a number
abbrev pub asked_json : Settings → Place → ℕ → Data
asked_json s a n = pair_json (account_json s a) (number_json n)

abbrev pub request_json : Settings → Request → Data
request_json s (Deposit a amount) = one_json (codes "deposit") (asked_json s a amount)
request_json s (Withdraw a amount) = one_json (codes "withdraw") (asked_json s a amount)
request_json s (Interest a rate) = one_json (codes "interest") (asked_json s a rate)
request_json s (Cancel x) = one_json (codes "cancel") (name_json x)
request_json s (Transfer from to amount) = one_json (codes "transfer")
    (three_json (account_json s from) (account_json s to) (number_json amount))

-- what the home had applied, in this version of the format: how many of each site's blue operations, and how many red
-- ones
abbrev pub deps_json : ℕ → Deps → Data
deps_json version d = pair_json (blue_json version d.blue) (number_json d.red)

-- the target of a cancellation and the receiving account of a transfer; no other kind has a last member of its own
abbrev pub last_members : Settings → Kind → Members
last_members s (CancelKind x) = member (codes "target") (name_json x) no_members
last_members s (TransferKind to) = member (codes "to") (account_json s to) no_members
last_members s _ = no_members

abbrev pub shadow_json : Settings → Shadow → Data
shadow_json s v = object
    (member (codes "account") (account_json s v.account)
    (member (codes "amount") (number_json v.amount)
    (member (codes "deps") (deps_json s.version v.deps)
    (member (codes "home") (number_json v.home)
    (member (codes "kind") (string (word_of (label_of v.kind)))
    (member (codes "name") (name_json v.name)
    (last_members s v.kind)))))))

-- the token on its way: its epoch, the site that it goes to, and the red operations before it
abbrev pub token_json : TokenMessage → Data
token_json m = three_json (number_json m.epoch) (number_json m.to) (number_json m.red)

abbrev pub event_json : Settings → Event → Data
event_json s (Submit r) = request_json s r
event_json s (Batch rs) = one_json (codes "batch") (list_json (request_json s) rs)
event_json s (Receive (ShadowMessage v)) = one_json (codes "shadow") (shadow_json s v)
event_json s (Receive (TokenOnItsWay m)) = one_json (codes "token") (token_json m)
event_json s (Apply x) = one_json (codes "apply") (name_json x)
event_json s (Pass to) = one_json (codes "pass") (number_json to)
event_json s (Balance a) = one_json (codes "balance") (account_json s a)
event_json s (AsOf a n) = one_json (codes "asof") (asked_json s a n)
event_json s (Statement a) = one_json (codes "statement") (account_json s a)

-- an entry of a site's history with its id, the keys in byte order
abbrev pub asked_entry_json : Settings → ℕ → AskedEntry → Data
asked_entry_json s site x = object
    (member (codes "event") (event_json s x.entry.event)
    (id_member x.id
    (member (codes "reply") (reply_json x.entry.reply)
    (member (codes "site") (number_json site) no_members))))

-- an entry of a site's history without an id
abbrev pub entry_json : Settings → ℕ → Entry → Data
entry_json s site x = object
    (member (codes "event") (event_json s x.event)
    (member (codes "reply") (reply_json x.reply)
    (member (codes "site") (number_json site) no_members)))

-- ---- what is read

-- the number of a site of the configuration, and its entry, that the values of an object's keys come to
abbrev pub entry_in : Settings → Data → Option (ℕ × Entry)
entry_in s d =
    option_and_then (λ site. option_and_then (λ event. option_map (λ reply. (site, record { event = event; reply = reply }))
    (field (codes "reply") reply_parsed d))
    (field (codes "event") (event_at s) d))
    (field (codes "site") (number_below s.sites) d)

-- the number of a site, and its entry with the id, that an object of four members comes to
abbrev pub entry_with_id : Settings → Data → Option (ℕ × AskedEntry)
entry_with_id s d =
    option_and_then (λ id. option_and_then (λ x. if may_be_asked x.1 then Some (x.0, record { id = id; entry = x.1 }) else None)
    (entry_in s d)) (field (codes "id") id_at d)

-- an entry is an object of three members, or of four with an id
abbrev pub asked_entry_of_object : Settings → Data → Option (ℕ × AskedEntry)
asked_entry_of_object s d = if size_of d == 3 then option_map (λ x. (x.0, record { id = []; entry = x.1 })) (entry_in s d)
    else if size_of d == 4 then entry_with_id s d
    else None

-- the entry that a line is, with its id
abbrev pub asked_entry_of_line : Settings → List ℕ → Option (ℕ × AskedEntry)
asked_entry_of_line s line = option_and_then (asked_entry_of_object s) (read line)

-- the entry that a line is, its id left out
abbrev pub entry_of_line : Settings → List ℕ → Option (ℕ × Entry)
entry_of_line s line = option_map (λ x. (x.0, x.1.entry)) (asked_entry_of_line s line)

-- the event with an id that an object of two members is
abbrev pub event_with_id : Settings → Data → Option AskedEvent
event_with_id s d =
    option_and_then (λ id. option_and_then (λ e. if may_have_id e then Some (record { id = id; event = e }) else None)
    (recorded_of s d)) (field (codes "id") id_at d)

-- an event is an object of one member, or of two with an id
abbrev pub asked_event_at : Settings → Data → Option AskedEvent
asked_event_at s d =
    if size_of d == 2 then event_with_id s d else option_map (λ e. record { id = []; event = e }) (event_at s d)

-- the event that a line is, with its id
abbrev pub asked_event_of_line : Settings → List ℕ → Option AskedEvent
asked_event_of_line s line = option_and_then (asked_event_at s) (read line)

-- the entry on a line with its id and its site, at these settings
unfoldable pub asked_entry_on : Settings → List ℕ → Option (ℕ × AskedEntry)
asked_entry_on s l = if is_utf8 l then asked_entry_of_line s l else None

-- the entry on a line with its site, its id left out
unfoldable pub entry_on : Settings → List ℕ → Option (ℕ × Entry)
entry_on s l = if is_utf8 l then entry_of_line s l else None
