-- Texts that begin with what is written for a part of a history's line, and then the rest follows: of parts that fit.
use Rattle.std.specs.Prelude.{◌≡◌, ◌⊎◌, ℕ, ◌<◌, ◌^◌, List, [], ◌++◌, codes, true, false, drop, length, map, unwrap_or, slice_get}
use Rattle.json.specs.Print.{escape}
use Rattle.serde_json.specs.Data.{Data}
use Rattle.serde_json.specs.View.{items_of}
use Rattle.serde_json.specs.Written.{compact_text, items_text}
use Rattle.rb_money.specs.Settings.{Settings}
use Rattle.rb_money.specs.declared.limits.TheConstants.{MOST_SITES, MOST_SITES_OF_VERSION_1}
use Rattle.rb_money.specs.declared.place.Place.{Place}
use Rattle.rb_scratch.specs.declared.request.Request.{Request}
use Rattle.rb_site.specs.declared.event.Event.{Event}
use Rattle.rb_site.specs.declared.reply.Reply.{Reply}
use Rattle.rb_site.specs.Worlds.{IsOwn}
use Rattle.rb_history.specs.Replies.{reply_json}
use Rattle.rb_history.specs.Counts.{blue_json, numbered_from, numbered_json}
use Rattle.rb_history.specs.Entries.{event_json, request_json}
use Rattle.rb_history.specs.Fits.{Each, IsEvent, IsReply, IsRequest}
use Rattle.rb_history.specs.Ids.{is_id}
use Rattle.rb_history.specs.Values.{one_json}

-- a string after its first quote
abbrev pub behind_quote : List ℕ → List ℕ
behind_quote text = escape text ++ codes "\""

-- an account's name after its first quote, or "?" if the configuration has no account at the place
abbrev pub account_behind_quote : Settings → Place → List ℕ
account_behind_quote s a = behind_quote (unwrap_or (slice_get s.names a.0) (codes "?"))

-- two texts, this one between them, and the rest
abbrev pub IsBetween : List ℕ → List ℕ → List ℕ → List ℕ → List ℕ → Type 0
IsBetween middle text front back rest = text ≡ (front ++ (middle ++ back)) ++ rest

-- the one member of this object, from the first letter of its key to the end of its value
pub record BeginsWithMember (d : Data) (text rest : List ℕ) : Type 0 where
  pub key : List ℕ
  pub value : Data
  pub object : d ≡ one_json key value
  pub written : text ≡ behind_quote key ++ (codes ":" ++ (compact_text value ++ rest))

-- the member of a request
abbrev pub BeginsWithRequest : Settings → Request → List ℕ → List ℕ → Type 0
BeginsWithRequest s r text rest = IsRequest s r × BeginsWithMember (request_json s r) text rest

-- the member of an event of a site's own
abbrev pub BeginsWithOwn : Settings → Event → List ℕ → List ℕ → Type 0
BeginsWithOwn s e text rest = IsOwn e × IsEvent s e × BeginsWithMember (event_json s e) text rest

-- the end of an object after its other member: an id as its last member, or none
abbrev pub EndsWithId : List ℕ → List ℕ → Type 0
EndsWithId id text =
    ((id ≡ []) × (text ≡ codes "}")) ⊎ ((is_id id ≡ true) × (text ≡ codes ",\"id\":\"" ++ (id ++ codes "\"}")))

-- the id of an entry's line after its event, or none, and what follows
abbrev pub BeginsWithId : List ℕ → List ℕ → List ℕ → Type 0
BeginsWithId id text rest =
    ((id ≡ []) × (text ≡ rest)) ⊎ ((is_id id ≡ true) × (text ≡ codes ",\"id\":\"" ++ (id ++ (codes "\"" ++ rest))))

-- the items of a list, and its closing bracket
abbrev pub BeginsWithEach : {A : Type 0} → (A → Data) → (A → Type 0) → List A → List ℕ → List ℕ → Type 0
BeginsWithEach written P xs text rest = Each P xs × (text ≡ items_text false (items_of (map written xs)) ++ rest)

-- the counts above 0 of all sites, each after its site's number, and the closing bracket
pub record BeginsWithNumbered (ns text rest : List ℕ) : Type 0 where
  pub sites : length ns ≡ MOST_SITES
  pub fit : Each (λ n. n < 2 ^ 32) ns
  pub written : text ≡ items_text false (items_of (map numbered_json (numbered_from 0 ns))) ++ rest

-- the counts of all sites, in a version of the format
pub record BeginsWithCounts (version : ℕ) (ns text rest : List ℕ) : Type 0 where
  pub sites : length ns ≡ MOST_SITES
  pub fit : Each (λ n. n < 2 ^ 32) ns
  pub further : version ≡ 1 → Each (λ n. n ≡ 0) (drop MOST_SITES_OF_VERSION_1 ns)
  pub written : text ≡ compact_text (blue_json version ns) ++ rest

-- an event that fits, in a configuration's version of the format
abbrev pub BeginsWithEvent : Settings → Event → List ℕ → List ℕ → Type 0
BeginsWithEvent s e text rest = IsEvent s e × (text ≡ compact_text (event_json s e) ++ rest)

-- a reply that fits
abbrev pub BeginsWithReply : Reply → List ℕ → List ℕ → Type 0
BeginsWithReply r text rest = IsReply r × (text ≡ compact_text (reply_json r) ++ rest)
