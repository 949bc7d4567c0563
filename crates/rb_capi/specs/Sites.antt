-- A site that C keeps, with the texts of its last answer.
use Rattle.std.specs.Prelude.{◌≡◌, ◌≢◌, ℕ, true, List, [], Option, Some, None}
use Rattle.rb_money.specs.Settings.{Settings}
use Rattle.rb_history.specs.ConfigLines.{config_json}
use Rattle.rb_history.specs.Entries.{asked_entry_on}
use Rattle.rb_history.specs.Ids.{AskedEntry}
use Rattle.rb_node.specs.Answers.{SeenNode, line_of, sent_line}
use Rattle.rb_node.specs.Asked.{SeenAsked, first_asked, known_of}
use Rattle.rb_node.specs.LineAnswers.{IsLineAnswer}
use Rattle.rb_node.specs.Replays.{IsNotNext, IsReplayedAs}

-- the site and the ids of its entries, the text of its last answer, and the lines for its journal
pub record SeenKept : Type 0 where
  pub site : SeenAsked
  pub answer : List ℕ
  pub entries : List ℕ

-- before any event, of a bank without a name: nothing was answered, and the journal begins with the line of the
-- configuration
abbrev pub first_kept : Settings → ℕ → SeenKept
first_kept s me = record { site = first_asked s me []; answer = []; entries = line_of (config_json s) }

-- the line is an event or a question, which the site, which records each event, answers by this text, with the lines of
-- the entries that it recorded
abbrev pub AnswersSiteLine : SeenKept → SeenKept → List ℕ → Type 0
AnswersSiteLine old new l = IsLineAnswer true old.site new.site l new.answer new.entries

-- the line is the site's next entry, with its id, if it has one; the answer is what the entry sent, to be sent again,
-- and the journal has its line already
pub record ReplaysEntryLine (old new : SeenKept) (l : List ℕ) : Type 0 where
  pub entry : AskedEntry
  pub on_line : asked_entry_on old.site.settings l ≡ Some (old.site.me, entry)
  pub node : SeenNode
  pub replayed : IsReplayedAs old.site node entry
  pub site : new.site ≡ node.site
  pub answer : new.answer ≡ sent_line node.site.settings node.site.bank node.sent
  pub entries : new.entries ≡ []

-- the line is no entry of the site, or has the id of an entry before
abbrev pub IsNoEntryLine : SeenAsked → List ℕ → Type 0
IsNoEntryLine t l = (x : AskedEntry) → asked_entry_on t.settings l ≡ Some (t.me, x) → known_of t x.id ≢ None

-- the line is an entry of the site, which has another reply than the site gives, or for which the history is full
abbrev pub IsWrongEntry : SeenAsked → List ℕ → Type 0
IsWrongEntry t l = (x : AskedEntry) × (asked_entry_on t.settings l ≡ Some (t.me, x)) × IsNotNext t x

-- the texts that are kept: those of the last answer, and none if there is no site
abbrev pub kept_text : Option SeenKept → List ℕ
kept_text None = []
kept_text (Some k) = k.answer

abbrev pub kept_entries : Option SeenKept → List ℕ
kept_entries None = []
kept_entries (Some k) = k.entries
