-- Every answer: its entries' lines are a journal's, and they are replayed; there is no other; and what it says
-- of an id.
use Rattle.std.specs.Prelude.{◌≡◌, ◌≢◌, ℕ, ◌<◌, Bool, List, [], ◌∷◌, ◌++◌, All, Some, slice_index, true}
use Rattle.serde_json.specs.Written.{compact_text}
use Rattle.rb_money.specs.Settings.{IsConfigured, Settings}
use Rattle.rb_site.specs.Events.{sent_at}
use Rattle.rb_history.specs.ConfigLines.{config_json}
use Rattle.rb_history.specs.Entries.{asked_entry_json}
use Rattle.rb_history.specs.Ids.{AskedEntry, AskedEvent, IsIdOrNone}
use Rattle.rb_node.specs.Answers.{SeenNode, again_json, asked_event_on, entry_lines, line_of, other_bank_json}
use Rattle.rb_node.specs.Answers.{other_bank_on, other_request_json}
use Rattle.rb_node.specs.Asked.{AreIdsOnce, SeenAsked, asked_state, with_more}
use Rattle.rb_node.specs.LineAnswers.{IsLineAnswer}
use Rattle.rb_node.specs.Replays.{IsReadBack, IsReplayedAs}

-- ---- lines

-- a journal's line begins with `{` (123), and no byte of it is a line feed (10)
pub record IsJournalLine (line : List ℕ) : Type 0 where
  pub begins : slice_index line 0 ≡ 123
  pub one : All (λ b. b ≢ 10) line

-- the line of a configuration is a journal's line, without its line feed
abbrev pub ConfigsAreJournalLines : Type 0
ConfigsAreJournalLines = (s : Settings) → IsConfigured s → IsJournalLine (compact_text (config_json s))

-- the line of an entry is a journal's line, whatever the entry
abbrev pub EntriesAreJournalLines : Type 0
EntriesAreJournalLines = (s : Settings) → IsConfigured s → (me : ℕ) (x : AskedEntry) → IsIdOrNone x.id
    → IsJournalLine (compact_text (asked_entry_json s me x))

-- ---- replays

-- the line of each entry is read as that entry of the site, and the site is the last after all were replayed
abbrev pub AreReplayed : SeenAsked → List AskedEntry → SeenAsked → Type 0
AreReplayed old [] new = new ≡ old
AreReplayed old (x ∷ xs) new = (next : SeenNode) × IsReadBack old.settings old.me x × IsReplayedAs old next x
    × AreReplayed next.site xs new

-- the second site is the first after some more entries, of which these bytes are the lines, and which are replayed
pub record IsRecorded (old new : SeenAsked) (entries : List ℕ) : Type 0 where
  pub recorded : List AskedEntry
  pub recorded_are : new ≡ with_more old recorded
  pub entries_are : entries ≡ entry_lines old.settings old.me recorded
  pub replayed : AreReplayed old recorded new

-- what an answer recorded is replayed to the site that it left
abbrev pub AnswersAreReplayed : Type 0
AnswersAreReplayed = (all : Bool) (old new : SeenAsked) (line text entries : List ℕ) → IsConfigured old.settings
    → old.me < old.settings.sites → IsLineAnswer all old new line text entries → IsRecorded old new entries

-- ---- one answer

-- a site has one answer to a line: the same text, the same lines of entries, and the same site after it
abbrev pub AnswersAreOne : Type 0
AnswersAreOne = (all : Bool) (old new other : SeenAsked) (line text words entries rows : List ℕ)
    → IsLineAnswer all old new line text entries → IsLineAnswer all old other line words rows
    → (text ≡ words) × (entries ≡ rows) × (new ≡ other)

-- ---- ids

-- an answer leaves no two entries of one id, if there were none
abbrev pub IdsStayOnce : Type 0
IdsStayOnce = (all : Bool) (old new : SeenAsked) (line text entries : List ℕ) → IsLineAnswer all old new line text entries
    → AreIdsOnce old.asked → AreIdsOnce new.asked

-- an answer to a line whose id is that of an entry has the entry's reply and messages, if it is the same request, and
-- is refused else; the site stays as it was
abbrev pub AnswersAreTheSame : Type 0
AnswersAreTheSame = (all : Bool) (old new : SeenAsked) (line text entries : List ℕ) → IsLineAnswer all old new line text entries
    → AreIdsOnce old.asked → (asked : AskedEvent) → asked_event_on old.settings old.bank line ≡ Some asked → asked.id ≢ []
    → (before later : List AskedEntry) (x : AskedEntry) → old.asked ≡ before ++ x ∷ later → x.id ≡ asked.id
    → (new ≡ old) × (entries ≡ [])
    × (x.entry.event ≡ asked.event → text ≡ line_of (again_json old.settings old.bank asked.id (record {
      event = x.entry.event;
      reply = x.entry.reply;
      sent = sent_at old.settings (asked_state (record old { asked = before })) x.entry.event;
    })))
    × (x.entry.event ≢ asked.event → text ≡ line_of (other_request_json asked.id))

-- ---- other banks

-- the answer to a line of another bank is a refusal; the site stays as it was
abbrev pub OtherBanksAreRefused : Type 0
OtherBanksAreRefused = (all : Bool) (old new : SeenAsked) (line text entries : List ℕ) → IsLineAnswer all old new line text entries
    → other_bank_on old.settings old.bank line ≡ true → (text ≡ line_of other_bank_json) × (new ≡ old) × (entries ≡ [])
