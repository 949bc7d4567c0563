-- The answer of a site to a line: to an event, or to a question about itself.
use Rattle.std.specs.Prelude.{◌≡◌, ◌⊎◌, ℕ, Bool, if◌then◌else◌, List, [], ◌++◌, codes, Option, Some, None}
use Rattle.std.specs.Str.{is_utf8}
use Rattle.serde_json.specs.Data.{Data, array, no_items, object, member, no_members}
use Rattle.rb_site.specs.Seen.{SeenSite}
use Rattle.rb_history.specs.declared.question.Question.{Question}
use Rattle.rb_history.specs.declared.question.Question.TheVariants.{About, Resend}
use Rattle.rb_history.specs.Banks.{question_to}
use Rattle.rb_history.specs.Ids.{AskedEvent}
use Rattle.rb_history.specs.Values.{number_json, one_json}
use Rattle.rb_node.specs.About.{about_json}
use Rattle.rb_node.specs.Asked.{SeenAsked, without_ids}
use Rattle.rb_node.specs.Answers.{IsKnownAnswer, IsOtherBankAnswer, IsSiteAnswer, asked_event_on, line_of}
use Rattle.rb_node.specs.Resends.{count_again, sent_again}

-- the question on a line to the bank of this name: it has to be UTF-8
unfoldable pub question_on : List ℕ → List ℕ → Option Question
question_on bank l = if is_utf8 l then question_to bank l else None

-- the answer to a question: its reply, no messages, and no applications that follow
abbrev pub reply_only : Data → Data
reply_only reply = object
    (member (codes "reply") reply
    (member (codes "sends") (array no_items)
    (member (codes "then") (array no_items) no_members)))

-- the answer of a bank's site to a question: about the site; or the messages of its last entries, and then of how
-- many entries these are
abbrev pub question_text : List ℕ → SeenSite → Question → List ℕ
question_text bank x About = line_of (reply_only (one_json (codes "about") (about_json x)))
question_text bank x (Resend most) =
    sent_again bank most x ++ line_of (reply_only (one_json (codes "resent") (number_json (count_again most x))))

-- the site answers the question on a line by this text; it stays as it was, and records nothing
pub record IsQuestionAnswer (old new : SeenAsked) (line text entries : List ℕ) : Type 0 where
  pub question : Question
  pub is_question : question_on old.bank line ≡ Some question
  pub text_is : text ≡ question_text old.bank (without_ids old) question
  pub after : new ≡ old
  pub entries_are : entries ≡ []

-- the site, which records all events or those that change it, answers a line by this text; these bytes are the lines
-- of the entries that it recorded
abbrev pub IsLineAnswer : Bool → SeenAsked → SeenAsked → List ℕ → List ℕ → List ℕ → Type 0
IsLineAnswer all old new line text entries = IsSiteAnswer all old new line text entries
    ⊎ (IsKnownAnswer old new line text entries
    ⊎ (IsQuestionAnswer old new line text entries ⊎ IsOtherBankAnswer old new line text entries))

-- the answer to a line, and the lines of the entries that it recorded, after what was there
abbrev pub AddsAnswer : Bool → SeenAsked → SeenAsked → List ℕ → List ℕ → List ℕ → List ℕ → List ℕ → Type 0
AddsAnswer all old new line texts texts_after entries entries_after = (text : List ℕ) × (lines : List ℕ)
    × IsLineAnswer all old new line text lines × (texts_after ≡ texts ++ text) × (entries_after ≡ entries ++ lines)

-- the answer to each line of an event with its id
abbrev pub AddsEvent : Bool → SeenAsked → SeenAsked → AskedEvent → List ℕ → List ℕ → List ℕ → List ℕ → Type 0
AddsEvent all old new asked texts texts_after entries entries_after = (line : List ℕ)
    → asked_event_on old.settings old.bank line ≡ Some asked → AddsAnswer all old new line texts texts_after entries entries_after
