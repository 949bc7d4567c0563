-- The answer of a site to the line of an event.
use Rattle.std.specs.Prelude.{◌≡◌, ◌≢◌, ℕ, Bool, true, false, not, ◌&&◌, ◌||◌, if◌then◌else◌, List, [], ◌∷◌, ◌++◌, ◌⊎◌, codes, map}
use Rattle.std.specs.Prelude.{Option, Some, None}
use Rattle.std.specs.List.{flat_map}
use Rattle.std.specs.Str.{is_utf8}
use Rattle.serde_json.specs.Data.{Data, Members, array, boolean, no_items, object, member, no_members}
use Rattle.serde_json.specs.Written.{compact_text}
use Rattle.rb_lines.specs.Lines.{is_long}
use Rattle.rb_money.specs.Settings.{Settings}
use Rattle.rb_money.specs.declared.refusal.TheConstants.{OTHER_BANK_REFUSED, OTHER_REQUEST_REFUSED}
use Rattle.rb_shadow.specs.declared.op_name.OpName.{OpName}
use Rattle.rb_site.specs.declared.entry.Entry.{Entry}
use Rattle.rb_site.specs.declared.event.Event.{Event}
use Rattle.rb_site.specs.declared.event.Event.TheVariants.{Apply}
use Rattle.rb_site.specs.declared.message.Message.{Message}
use Rattle.rb_site.specs.declared.reply.Reply.{Reply}
use Rattle.rb_site.specs.Events.{ModelSite, after_event, after_events, is_full, replies_to_events, reply_to, sent_at}
use Rattle.rb_site.specs.Ready.{IsNextName, NoneIsReady}
use Rattle.rb_site.specs.Seen.{SeenSite, entry, next_sites, state_of}
use Rattle.rb_site.specs.Unchanging.{changes_site, reply_if_changes}
use Rattle.rb_history.specs.Ids.{AskedEntry, AskedEvent, id_member}
use Rattle.rb_history.specs.Replies.{reply_json}
use Rattle.rb_history.specs.Values.{list_json, number_json, one_json}
use Rattle.rb_history.specs.Banks.{event_to, is_of_other, sent_json}
use Rattle.rb_history.specs.Entries.{asked_entry_json, entry_json}
use Rattle.rb_node.specs.Asked.{Known, SeenAsked, asked_state, known_of, without_ids, with_id, with_more}

-- ---- a site by lines, as clients see it

-- the site, and the messages that its last event sent
pub record SeenNode : Type 0 where
  pub site : SeenAsked
  pub sent : List Message

-- ---- lines

-- the event on a line to the bank of this name with its id, at these settings: it has to be UTF-8
unfoldable pub asked_event_on : Settings → List ℕ → List ℕ → Option AskedEvent
asked_event_on s bank l = if is_utf8 l then event_to s bank l else None

-- the line is of another bank than the one of this name
unfoldable pub other_bank_on : Settings → List ℕ → List ℕ → Bool
other_bank_on s bank l = if is_utf8 l then is_of_other s bank l else false

-- the line of a value, with its line feed
abbrev pub line_of : Data → List ℕ
line_of d = compact_text d ++ 10 ∷ []

-- messages, each as the event of a site that it goes to, with the bank's name, if it has one
abbrev pub messages_json : Settings → List ℕ → List Message → Data
messages_json s bank ms = list_json (sent_json s bank) ms

-- the reply, the messages that were sent, and the replies to the applications that followed
abbrev pub answer_members : Settings → List ℕ → Reply → List Message → List Reply → Members
answer_members s bank reply sent later =
    member (codes "reply") (reply_json reply)
    (member (codes "sends") (messages_json s bank sent)
    (member (codes "then") (list_json reply_json later) no_members))

-- an answer, with the id of the event, if it has one; the keys in byte order
abbrev pub asked_answer_json : Settings → List ℕ → List ℕ → Reply → List Message → List Reply → Data
asked_answer_json s bank id reply sent later = object (id_member id (answer_members s bank reply sent later))

-- the answer to a request that was made before
abbrev pub again_json : Settings → List ℕ → List ℕ → Known → Data
again_json s bank id known =
    object (member (codes "again") (boolean true) (id_member id (answer_members s bank known.reply known.sent [])))

-- a refusal by this number, with this id, if it has one, and nothing that was sent or applied
abbrev pub refused_json : List ℕ → ℕ → Data
refused_json id n = object (id_member id
    (member (codes "reply") (one_json (codes "refused") (number_json n))
    (member (codes "sends") (array no_items)
    (member (codes "then") (array no_items) no_members))))

-- the answer to another request of a known id
abbrev pub other_request_json : List ℕ → Data
other_request_json id = refused_json id OTHER_REQUEST_REFUSED

-- the answer to a line of another bank
abbrev pub other_bank_json : Data
other_bank_json = refused_json [] OTHER_BANK_REFUSED

-- the line of what is sent again; there is none if nothing was sent
abbrev pub sent_line : Settings → List ℕ → List Message → List ℕ
sent_line s bank [] = []
sent_line s bank (m ∷ ms) = line_of (one_json (codes "sends") (messages_json s bank (m ∷ ms)))

-- the lines of entries of a site
abbrev pub entry_lines : Settings → ℕ → List AskedEntry → List ℕ
entry_lines s me xs = flat_map (λ x. line_of (asked_entry_json s me x)) xs

-- ---- what is applied after an event

-- the names are applied one after another: each is the first that is ready at its turn, and the history isn't full
abbrev pub AreReadyInTurn : Settings → ModelSite → List OpName → Type 0
AreReadyInTurn s t [] = Unit {0}
AreReadyInTurn s t (x ∷ xs) = (is_full s t ≡ false) × IsNextName t x × AreReadyInTurn s (after_event s t (Apply x)) xs

-- nothing more is applied: the history is full, or nothing that is held is ready
abbrev pub IsAllApplied : Settings → ModelSite → Type 0
IsAllApplied s t = (is_full s t ≡ true) ⊎ NoneIsReady t

-- the operations of these names were applied at a site, until nothing more is: it replied so, and recorded these
-- entries
pub record AppliesAll (old new : SeenSite) (names : List OpName) (replies : List Reply) (recorded : List Entry) : Type 0 where
  pub in_turn : AreReadyInTurn old.settings (state_of old) names
  pub all : IsAllApplied old.settings (after_events old.settings (state_of old) (map Apply names))
  pub after : new ≡ next_sites old (map Apply names)
  pub replies_are : replies ≡ replies_to_events old.settings (state_of old) (map Apply names)
  pub recorded_are : new.entries ≡ old.entries ++ recorded

-- ---- the answer

-- whether a site records an event: the event changes it; or all are recorded, and the line of its entry isn't longer
-- than a line may be
abbrev pub is_kept : Bool → SeenSite → Event → Bool
is_kept all x e = changes_site x.settings (state_of x) e
    || (all && not (is_long (compact_text (entry_json x.settings x.me (entry e (reply_to x.settings (state_of x) e))))))

-- the event, if it is recorded
abbrev pub kept_events : Bool → SeenSite → Event → List Event
kept_events all x e = if is_kept all x e then e ∷ [] else []

-- the reply to an event: if all are recorded each is refused if the history is full; else only what changes the site
abbrev pub reply_kept : Bool → SeenSite → Event → Reply
reply_kept all x e = if all then reply_to x.settings (state_of x) e else reply_if_changes x.settings (state_of x) e

-- the site answers the line of an event, whose id, if it has one, isn't known, by this text; these bytes are the
-- lines of the entries that it recorded: of the event, if it is recorded, with its id, if it was made, and of what
-- was applied then
pub record IsSiteAnswer (all : Bool) (old new : SeenAsked) (line text entries : List ℕ) : Type 0 where
  pub asked : AskedEvent
  pub is_event : asked_event_on old.settings old.bank line ≡ Some asked
  pub unknown : known_of old asked.id ≡ None
  pub mid : SeenSite
  pub mid_is : mid ≡ next_sites (without_ids old) (kept_events all (without_ids old) asked.event)
  pub applied : List OpName
  pub in_turn : AreReadyInTurn old.settings (state_of mid) applied
  pub all_applied : IsAllApplied old.settings (after_events old.settings (state_of mid) (map Apply applied))
  pub after : without_ids new ≡ next_sites mid (map Apply applied)
  pub text_is : text ≡ line_of (asked_answer_json old.settings old.bank asked.id (reply_kept all (without_ids old) asked.event)
      (sent_at old.settings (asked_state old) asked.event)
      (replies_to_events old.settings (state_of mid) (map Apply applied)))
  pub recorded : List Entry
  pub recorded_are : new ≡ with_more old (map (with_id asked.id) recorded)
  pub entries_are : entries ≡ entry_lines old.settings old.me (map (with_id asked.id) recorded)

-- the site answers the line of an event whose id is known: the request is the same, and its reply and its messages come
-- once more; or it is another, and is refused. The site stays as it was, and records nothing
pub record IsKnownAnswer (old new : SeenAsked) (line text entries : List ℕ) : Type 0 where
  pub asked : AskedEvent
  pub is_event : asked_event_on old.settings old.bank line ≡ Some asked
  pub known : Known
  pub is_known : known_of old asked.id ≡ Some known
  pub again : known.event ≡ asked.event → text ≡ line_of (again_json old.settings old.bank asked.id known)
  pub other : known.event ≢ asked.event → text ≡ line_of (other_request_json asked.id)
  pub after : new ≡ old
  pub entries_are : entries ≡ []

-- the site refuses a line of another bank by this text. It stays as it was, and records nothing
pub record IsOtherBankAnswer (old new : SeenAsked) (line text entries : List ℕ) : Type 0 where
  pub is_other : other_bank_on old.settings old.bank line ≡ true
  pub text_is : text ≡ line_of other_bank_json
  pub after : new ≡ old
  pub entries_are : entries ≡ []
