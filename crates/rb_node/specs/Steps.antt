-- Steps of a site with the lines of its entries, between two buffers.
use Rattle.std.specs.Prelude.{◌≡◌, ℕ, Bool, true, false, not, ◌&&◌, if◌then◌else◌, List, [], ◌∷◌, ◌++◌, codes, map}
use Rattle.serde_json.specs.View.{items_of}
use Rattle.serde_json.specs.Written.{compact_text, items_text}
use Rattle.rb_lines.specs.Lines.{is_long}
use Rattle.rb_money.specs.Settings.{Settings}
use Rattle.rb_shadow.specs.declared.op_name.OpName.{OpName}
use Rattle.rb_site.specs.declared.entry.Entry.{Entry}
use Rattle.rb_site.specs.declared.event.Event.{Event}
use Rattle.rb_site.specs.declared.reply.Reply.{Reply}
use Rattle.rb_site.specs.declared.event.Event.TheVariants.{Apply}
use Rattle.rb_site.specs.Events.{is_full, reply_to}
use Rattle.rb_site.specs.Seen.{entry, next_site, next_sites}
use Rattle.rb_site.specs.Unchanging.{changes_site, reply_if_changes}
use Rattle.rb_history.specs.Entries.{asked_entry_json, entry_json}
use Rattle.rb_history.specs.Ids.{AskedEntry}
use Rattle.rb_history.specs.Replies.{reply_json}
use Rattle.rb_node.specs.Answers.{AppliesAll, entry_lines, kept_events, line_of, reply_kept}
use Rattle.rb_node.specs.Asked.{SeenAsked, asked_state, without_ids, with_id, with_more}

-- an entry without an id
abbrev pub without_id : Entry → AskedEntry
without_id x = record { id = []; entry = x }

-- one event with its id, which is recorded, with its reply, if it changes the site and the history isn't full
pub record RecordsIf (old new : SeenAsked) (id : List ℕ) (e : Event) (reply : Reply) (recorded : Bool) : Type 0 where
  pub recorded_is : recorded ≡ (changes_site old.settings (asked_state old) e && not (is_full old.settings (asked_state old)))
  pub reply_is : reply ≡ reply_if_changes old.settings (asked_state old) e
  pub site : new ≡ with_more old (if recorded then with_id id (entry e reply) ∷ [] else [])

-- one event of no id, which is recorded: the site after it, its reply, and the line of its entry after those before
pub record Steps (old new : SeenAsked) (e : Event) (reply : Reply) (entries after : List ℕ) : Type 0 where
  pub site : without_ids new ≡ next_site (without_ids old) e
  pub reply_is : reply ≡ reply_to old.settings (asked_state old) e
  pub recorded_are : new ≡ with_more old (without_id (entry e reply) ∷ [])
  pub entries_are : after ≡ entries ++ entry_lines old.settings old.me (without_id (entry e reply) ∷ [])

-- the entry, if its line isn't longer than a line may be
abbrev pub if_short : Settings → ℕ → Entry → List Entry
if_short s me x = if is_long (compact_text (entry_json s me x)) then [] else x ∷ []

-- an entry without an id is recorded, if its line isn't too long: the line after those before
pub record RecordsShort (old new : SeenAsked) (x : Entry) (entries after : List ℕ) : Type 0 where
  pub recorded_are : new ≡ with_more old (map without_id (if_short old.settings old.me x))
  pub entries_are : after ≡ entries ++ entry_lines old.settings old.me (map without_id (if_short old.settings old.me x))

-- the history isn't full, the entry's event changes nothing, and the entry has the reply that the site gives to it
pub record IsUnchanging (now : SeenAsked) (x : Entry) : Type 0 where
  pub free : is_full now.settings (asked_state now) ≡ false
  pub unchanging : changes_site now.settings (asked_state now) x.event ≡ false
  pub reply : x.reply ≡ reply_to now.settings (asked_state now) x.event

-- what follows an event with its id: the line of its entry, if it was recorded; if not, it is recorded then
abbrev pub Notes : Bool → SeenAsked → SeenAsked → List ℕ → Entry → List ℕ → List ℕ → Type 0
Notes true old new id x entries after =
    (new ≡ old) × (after ≡ entries ++ line_of (asked_entry_json old.settings old.me (with_id id x)))
Notes false old new id x entries after = RecordsShort old new x entries after

-- one event with its id: the site after it, its reply, and the line of its entry, if it is recorded, after those
-- before
pub record StepsKept (all : Bool) (old new : SeenAsked) (id : List ℕ) (e : Event) (reply : Reply) (entries after : List ℕ) : Type 0 where
  pub site : without_ids new ≡ next_sites (without_ids old) (kept_events all (without_ids old) e)
  pub reply_is : reply ≡ reply_kept all (without_ids old) e
  pub recorded : List Entry
  pub recorded_are : new ≡ with_more old (map (with_id id) recorded)
  pub entries_are : after ≡ entries ++ entry_lines old.settings old.me (map (with_id id) recorded)

-- the operation of a name is applied: its reply after a text, and the line of its entry
pub record AppliesOne (old new : SeenAsked) (x : OpName) (comma text text_after entries entries_after : List ℕ) : Type 0 where
  pub reply : Reply
  pub step : Steps old new (Apply x) reply entries entries_after
  pub text_is : text_after ≡ text ++ (comma ++ compact_text (reply_json reply))

-- what is ready is applied: the replies, with the end of an answer's line, and the lines of the entries. None of these
-- may have an id, whatever the id
pub record Applies (old new : SeenAsked) (text text_after entries entries_after : List ℕ) : Type 0 where
  pub names : List OpName
  pub replies : List Reply
  pub recorded : List Entry
  pub applied : AppliesAll (without_ids old) (without_ids new) names replies recorded
  pub recorded_are : (id : List ℕ) → new ≡ with_more old (map (with_id id) recorded)
  pub text_is : text_after ≡ text ++ (items_text false (items_of (map reply_json replies)) ++ codes "}\n")
  pub entries_are : (id : List ℕ) → entries_after ≡ entries ++ entry_lines old.settings old.me (map (with_id id) recorded)
