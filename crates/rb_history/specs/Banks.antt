-- Lines of a bank that has a name: its messages have the name beside them, and so may the lines that a site is asked.
use Rattle.std.specs.Prelude.{◌≡◌, ◌⊎◌, ℕ, ◌<◌, ◌==◌, Bool, true, false, not, if◌then◌else◌, List, [], ◌∷◌, bytes_eq, codes}
use Rattle.std.specs.Prelude.{Option, Some, None, option_and_then, option_map, unwrap_or}
use Rattle.serde_json.specs.Data.{Data, Members, member, no_members, object, string}
use Rattle.serde_json.specs.Find.{as_str, get}
use Rattle.serde_json.specs.Read.{read}
use Rattle.serde_json.specs.Written.{compact_text}
use Rattle.rb_money.specs.Settings.{IsConfigured, Settings}
use Rattle.rb_site.specs.declared.event.Event.{Event}
use Rattle.rb_site.specs.declared.event.Event.TheVariants.{Receive}
use Rattle.rb_site.specs.declared.message.Message.{Message}
use Rattle.rb_site.specs.declared.message.Message.TheVariants.{Shadow as ShadowMessage, Token as TokenOnItsWay}
use Rattle.rb_site.specs.Events.{first_site}
use Rattle.rb_site.specs.Histories.{IsAmong, sends_of}
use Rattle.rb_history.specs.declared.question.Question.{Question}
use Rattle.rb_history.specs.Entries.{asked_event_at, asked_event_of_line, event_with_id, shadow_json, token_json}
use Rattle.rb_history.specs.Fits.{IsEvent}
use Rattle.rb_history.specs.Ids.{AskedEvent, IsIdOrNone, is_id, may_have_id}
use Rattle.rb_history.specs.Questions.{question_asked, question_of, question_of_line}
use Rattle.rb_history.specs.Recorded.{recorded_of}
use Rattle.rb_history.specs.Values.{size_of}

-- ---- what is sent

-- before these members of an object, the one of a bank's name, if it has one
abbrev pub bank_member : List ℕ → Members → Members
bank_member [] others = others
bank_member (b ∷ bs) others = member (codes "bank") (string (b ∷ bs)) others

-- a message as the member of the event of a site that it goes to
abbrev pub receipt_member : Settings → Message → Members
receipt_member s (ShadowMessage v) = member (codes "shadow") (shadow_json s v) no_members
receipt_member s (TokenOnItsWay m) = member (codes "token") (token_json m) no_members

-- a message to the sites of a bank
abbrev pub sent_json : Settings → List ℕ → Message → Data
sent_json s bank m = object (bank_member bank (receipt_member s m))

-- ---- what is read

-- the event is the receipt of a message
abbrev pub is_receipt : Event → Bool
is_receipt (Receive m) = true
is_receipt _ = false

-- whether the value is this text
abbrev pub is_this_text : List ℕ → Data → Bool
is_this_text t d = unwrap_or (option_map (bytes_eq t) (as_str d)) false

-- whether the value is another text
abbrev pub is_other_text : List ℕ → Data → Bool
is_other_text t d = unwrap_or (option_map (λ u. not (bytes_eq t u)) (as_str d)) false

-- an object's key "bank" has this name as its value
abbrev pub has_bank : List ℕ → Data → Bool
has_bank bank d = unwrap_or (option_map (is_this_text bank) (get (codes "bank") d)) false

-- an object's key "bank" has another text as its value
abbrev pub has_other_bank : List ℕ → Data → Bool
has_other_bank bank d = unwrap_or (option_map (is_other_text bank) (get (codes "bank") d)) false

-- the event that an object is beside a bank's name: it has two members, or three with an id
abbrev pub event_beside : Settings → Data → Option AskedEvent
event_beside s d = if size_of d == 3 then event_with_id s d
    else if size_of d == 2 then option_map (λ e. record { id = []; event = e }) (recorded_of s d)
    else None

-- the event to a bank with a name: the one that is one by itself, which must not be a receipt; else the one beside
-- the name
abbrev pub event_or : Option AskedEvent → Option AskedEvent → Option AskedEvent
event_or (Some x) beside = if is_receipt x.event then None else Some x
event_or None beside = beside

-- the event that an object is to the bank of a name
abbrev pub event_named : Settings → List ℕ → Data → Option AskedEvent
event_named s bank d = event_or (asked_event_at s d) (if has_bank bank d then event_beside s d else None)

-- the object is of another bank: it is a receipt by itself, or it has the name of another bank
abbrev pub is_other_named : Settings → List ℕ → Data → Bool
is_other_named s bank d = unwrap_or (option_map (λ x. is_receipt x.event) (asked_event_at s d)) (has_other_bank bank d)

-- the question that an object is beside a bank's name: it has two members
abbrev pub question_beside : Data → Option Question
question_beside d = if size_of d == 2 then question_asked (get (codes "about") d) (get (codes "resend") d) else None

-- the first question, if there is one, or else the second
abbrev pub question_or : Option Question → Option Question → Option Question
question_or (Some q) beside = Some q
question_or None beside = beside

-- the question that an object is to the bank of a name: it is one by itself, or beside the name
abbrev pub question_named : List ℕ → Data → Option Question
question_named bank d = question_or (question_of d) (if has_bank bank d then question_beside d else None)

-- the event that a line is to a bank: to one without a name, the event that it is by itself
abbrev pub event_to : Settings → List ℕ → List ℕ → Option AskedEvent
event_to s [] line = asked_event_of_line s line
event_to s (b ∷ bs) line = option_and_then (event_named s (b ∷ bs)) (read line)

-- the line is of another bank than the one of this name
abbrev pub is_of_other : Settings → List ℕ → List ℕ → Bool
is_of_other s [] line = false
is_of_other s (b ∷ bs) line = unwrap_or (option_map (is_other_named s (b ∷ bs)) (read line)) false

-- the question that a line is to a bank
abbrev pub question_to : List ℕ → List ℕ → Option Question
question_to [] line = question_of_line line
question_to (b ∷ bs) line = option_and_then (question_named (b ∷ bs)) (read line)

-- ---- laws

-- a line that is a question to a bank is no event to it
abbrev pub QuestionsAreNoEvents : Type 0
QuestionsAreNoEvents = (s : Settings) (bank line : List ℕ) (q : Question) → question_to bank line ≡ Some q
    → event_to s bank line ≡ None

-- a line of another bank is no event and no question
abbrev pub OtherBanksAskNothing : Type 0
OtherBanksAskNothing = (s : Settings) (bank line : List ℕ) → is_of_other s bank line ≡ true
    → (event_to s bank line ≡ None) × (question_to bank line ≡ None)

-- what is read from any line as an event to a bank fits; and its id is one, on an event that may have it, or none
abbrev pub ReadEventsFit : Type 0
ReadEventsFit = (s : Settings) (bank line : List ℕ) (x : AskedEvent) → event_to s bank line ≡ Some x
    → IsEvent s x.event × ((x.id ≡ []) ⊎ ((is_id x.id ≡ true) × (may_have_id x.event ≡ true)))

-- each message that a site sends, whatever its events, is read by the sites of a bank of the same name, or of none
abbrev pub MessagesAreRead : Type 0
MessagesAreRead = (s : Settings) → IsConfigured s → (me : ℕ) → me < s.sites → (es : List Event) (m : Message)
    → IsAmong m (sends_of s (first_site me) es) → (bank : List ℕ) → IsIdOrNone bank
    → event_to s bank (compact_text (sent_json s bank m)) ≡ Some (record { id = []; event = Receive m })
