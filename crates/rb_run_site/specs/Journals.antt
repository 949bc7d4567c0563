-- The journal of a site, and the answers of a site over it.
use Rattle.std.specs.Prelude.{◌≡◌, ◌⊎◌, ℕ, Bool, true, false, List, [], ◌∷◌, ◌++◌, map, codes, IfSome, Option, None, Some}
use Rattle.std.specs.List.{concat}
use Rattle.serde_json.specs.Data.{Data, Members, member, no_members, object, string}
use Rattle.rb_lines.specs.Lines.{is_long}
use Rattle.rb_reasons.specs.Reasons.{IsPlain}
use Rattle.rb_money.specs.Settings.{IsConfigured, Settings}
use Rattle.rb_history.specs.ConfigLines.{config_json}
use Rattle.rb_history.specs.Entries.{asked_entry_json}
use Rattle.rb_history.specs.Ids.{AskedEntry}
use Rattle.rb_history.specs.Values.{number_json}
use Rattle.rb_node.specs.Answers.{asked_event_on, line_of, other_bank_on}
use Rattle.rb_node.specs.Asked.{SeenAsked}
use Rattle.rb_node.specs.LineAnswers.{IsLineAnswer, question_on}

-- the line of a configuration, with its line feed
abbrev pub journal_head : Settings → List ℕ
journal_head s = line_of (config_json s)

-- the lines of entries, each with its line feed
abbrev pub lines_of_entries : Settings → ℕ → List AskedEntry → List (List ℕ)
lines_of_entries s me xs = map (λ x. line_of (asked_entry_json s me x)) xs

-- the lines of a site's journal: the configuration's, and one for each entry
abbrev pub journal_of : SeenAsked → List (List ℕ)
journal_of x = journal_head x.settings ∷ lines_of_entries x.settings x.me x.asked

-- the last member of the answer to a bad line: the reason, if there is one
abbrev pub why_members : Option (List ℕ) → Members
why_members (Some why) = member (codes "why") (string why) no_members
why_members None = no_members

-- a word for what is bad about a line, the line's number in the input, and the reason; the keys in byte order
abbrev pub bad_json : List ℕ → ℕ → Option (List ℕ) → Data
bad_json word number why =
    object (member (codes "bad") (string word) (member (codes "line") (number_json number) (why_members why)))

-- bytes grow by the answer to a line that isn't taken, with this reason or none
abbrev pub AddsBadLine : ℕ → Option (List ℕ) → List ℕ → List ℕ → Type 0
AddsBadLine number why old new = (said : Option (List ℕ)) × ((said ≡ why) ⊎ (said ≡ None))
    × (new ≡ old ++ line_of (bad_json (codes "line") number said))

-- nothing more is said of a line that is too long
abbrev pub HasNoReason : Option (List ℕ) → Type 0
HasNoReason why = why ≡ None

-- of a line that isn't taken a text may say why: on one line, with no control character
abbrev pub MayHaveReason : Option (List ℕ) → Type 0
MayHaveReason why = IfSome why IsPlain

-- a line is answered by what is bad about it, with such a reason, and the site stays as it was
pub record IsBadAnswer (word : List ℕ) (may_be : Option (List ℕ) → Type 0) (old new : SeenAsked) (number : ℕ)
    (added : List (List ℕ)) (text : List ℕ) : Type 0 where
  pub why : Option (List ℕ)
  pub reason : may_be why
  pub text_is : text ≡ line_of (bad_json word number why)
  pub same : new ≡ old
  pub none : added ≡ []

-- the answer to the line of this number, if all events are recorded or if those that change the site are, by whether
-- the line is too long: if so it is bad, whatever it is; else it is answered as an event, a question or a line of
-- another bank, or it is none of these
abbrev pub IsAnswer : Bool → Bool → SeenAsked → ℕ → List ℕ → List (List ℕ) → List ℕ → SeenAsked → Type 0
IsAnswer all true old number line added text new = IsBadAnswer (codes "long") HasNoReason old new number added text
IsAnswer all false old number line added text new = IsLineAnswer all old new line text (concat added)
    ⊎ ((asked_event_on old.settings old.bank line ≡ None) × (other_bank_on old.settings old.bank line ≡ false)
    × (question_on old.bank line ≡ None) × IsBadAnswer (codes "line") MayHaveReason old new number added text)

-- the site, which records all events or those that change it, answers the line of this number by this text and is then
-- the second; the lines of its new entries are these
pub record SiteAnswers (all : Bool) (old : SeenAsked) (number : ℕ) (line : List ℕ) (added : List (List ℕ))
    (text : List ℕ)
    (new : SeenAsked) : Type 0 where
  pub configured : IsConfigured old.settings
  pub answered : IsAnswer all (is_long line) old number line added text new
  pub after : journal_of new ≡ journal_of old ++ added

-- the site answers so by one choice or the other of which events it records
abbrev pub AnswersEither : SeenAsked → ℕ → List ℕ → List (List ℕ) → List ℕ → SeenAsked → Type 0
AnswersEither old number line added text new = (all : Bool) × SiteAnswers all old number line added text new
