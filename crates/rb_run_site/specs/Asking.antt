-- Requests by id of a site, however often it ran and crashed.
use Rattle.std.specs.Prelude.{◌≡◌, ◌≢◌, ◌⊎◌, ℕ, Bool, true, false, List, [], ◌∷◌, ◌++◌, map, Some, None}
use Rattle.rb_lines.specs.Lines.{is_long}
use Rattle.rb_money.specs.Settings.{Settings}
use Rattle.rb_site.specs.declared.message.Message.{Message}
use Rattle.rb_site.specs.declared.reply.Reply.{Reply}
use Rattle.rb_site.specs.Events.{sent_at}
use Rattle.rb_history.specs.Ids.{AskedEntry, AskedEvent}
use Rattle.rb_journal.specs.Turns.{Answers, AreTurns, Turn, state_after}
use Rattle.rb_node.specs.Answers.{again_json, asked_answer_json, asked_event_on, line_of, other_request_json}
use Rattle.rb_node.specs.Asked.{AreIdsOnce, Known, SeenAsked, asked_state, known_of}
use Rattle.rb_run_site.specs.Journals.{AnswersEither, SiteAnswers, lines_of_entries}
use Rattle.rb_run_site.specs.Restarts.{HasRestarted}

-- ---- once

-- however often a site ran and crashed, no two entries of its journal have one id
abbrev pub AskedOnce : Type 0
AskedOnce = (me : ℕ) (bank : List ℕ) (start : SeenAsked) (turns : List (Turn SeenAsked)) (file : List ℕ)
    → HasRestarted me bank start turns file → AreIdsOnce (state_after start turns).asked

-- ---- the same answer

-- a turn is the answer to a line whose id an entry of the site has: the entry's reply and its messages, once more, if
-- it is the same request, and else a refusal. The site stays as it was, and records nothing
pub record IsSameAnswer (old : SeenAsked) (before : List AskedEntry) (x : AskedEntry) (asked : AskedEvent)
    (t : Turn SeenAsked) :
    Type 0 where
  pub after : t.after ≡ old
  pub none : t.added ≡ []
  pub again : x.entry.event ≡ asked.event → t.text ≡ line_of (again_json old.settings old.bank asked.id (record {
    event = x.entry.event;
    reply = x.entry.reply;
    sent = sent_at old.settings (asked_state (record old { asked = before })) x.entry.event;
  }))
  pub other : x.entry.event ≢ asked.event → t.text ≡ line_of (other_request_json asked.id)

-- so is each turn of such a line, among the turns of all runs
abbrev pub SameAnswer : Type 0
SameAnswer = (start : SeenAsked) (earlier : List (Turn SeenAsked)) (t : Turn SeenAsked) (later : List (Turn SeenAsked))
    → AreIdsOnce start.asked → AreTurns AnswersEither start (earlier ++ t ∷ later) → is_long t.line ≡ false
    → (asked : AskedEvent)
    → asked_event_on (state_after start earlier).settings (state_after start earlier).bank t.line ≡ Some asked
    → asked.id ≢ []
    → (before behind : List AskedEntry) (x : AskedEntry) → (state_after start earlier).asked ≡ before ++ x ∷ behind
    → x.id ≡ asked.id → IsSameAnswer (state_after start earlier) before x asked t

-- ---- asking is serving

-- an entry without its id
abbrev pub struck_id : AskedEntry → AskedEntry
struck_id x = record { id = []; entry = x.entry }

-- the site, whose entries have no ids
abbrev pub strike : SeenAsked → SeenAsked
strike x = record x { asked = map struck_id x.asked }

-- the line isn't too long, and has an event of an id that the site knows
abbrev pub IsKnownLine : SeenAsked → List ℕ → Type 0
IsKnownLine x line = (asked : AskedEvent) × (known : Known) × (is_long line ≡ false)
    × (asked_event_on x.settings x.bank line ≡ Some asked) × (known_of x asked.id ≡ Some known)

-- neither line is too long; the first has an event whose id, if it has one, the site doesn't know, and the second has
-- the same event without an id
pub record IsStruckLine (x : SeenAsked) (line struck : List ℕ) : Type 0 where
  pub asked : AskedEvent
  pub is_event : asked_event_on x.settings x.bank line ≡ Some asked
  pub unknown : known_of x asked.id ≡ None
  pub is_struck : asked_event_on x.settings x.bank struck ≡ Some (record { id = []; event = asked.event })
  pub short : is_long line ≡ false
  pub short_struck : is_long struck ≡ false

-- the second line is the first without an id: of the same event, or the same line if it has no event or is too long
abbrev pub IsLineWithoutId : SeenAsked → List ℕ → List ℕ → Type 0
IsLineWithoutId x line struck = IsStruckLine x line struck
    ⊎ ((struck ≡ line) × ((asked_event_on x.settings x.bank line ≡ None) ⊎ (is_long line ≡ true)))

-- the lines of turns, those whose id is known left out, and the others without their ids
abbrev pub AreLinesWithoutIds : SeenAsked → List (Turn SeenAsked) → List (List ℕ) → Type 0
AreLinesWithoutIds x [] lines = lines ≡ []
AreLinesWithoutIds x (t ∷ turns) lines = (IsKnownLine x t.line × AreLinesWithoutIds t.after turns lines)
    ⊎ ((struck : List ℕ) × (later : List (List ℕ)) × (lines ≡ struck ∷ later) × IsLineWithoutId x t.line struck
    × AreLinesWithoutIds t.after turns later)

-- the second text is the first without an id: of the same reply, messages and replies to applications, or the same text
-- if it has no id
abbrev pub IsTextWithoutId : Settings → List ℕ → List ℕ → List ℕ → Type 0
IsTextWithoutId s bank text struck = ((id : List ℕ) × (reply : Reply) × (sent : List Message) × (later : List Reply)
    × (text ≡ line_of (asked_answer_json s bank id reply sent later))
    × (struck ≡ line_of (asked_answer_json s bank [] reply sent later)))
    ⊎ (struck ≡ text)

-- the second turn is the first without its id: the same entries, text and site but for ids
pub record IsTurnWithoutId (x : SeenAsked) (t u : Turn SeenAsked) : Type 0 where
  pub number : u.number ≡ t.number
  pub line : IsLineWithoutId x t.line u.line
  pub recorded : List AskedEntry
  pub added : t.added ≡ lines_of_entries x.settings x.me recorded
  pub added_struck : u.added ≡ lines_of_entries x.settings x.me (map struck_id recorded)
  pub text : IsTextWithoutId x.settings x.bank t.text u.text
  pub after : u.after ≡ strike t.after

-- a turn of a known id leaves the site as it was, and records nothing
pub record IsTurnOfKnown (x : SeenAsked) (t : Turn SeenAsked) : Type 0 where
  pub line : IsKnownLine x t.line
  pub after : t.after ≡ x
  pub none : t.added ≡ []

-- the second turns are the first, those of known ids left out, and the others without their ids
abbrev pub AreTurnsWithoutIds : SeenAsked → List (Turn SeenAsked) → List (Turn SeenAsked) → Type 0
AreTurnsWithoutIds x [] us = us ≡ []
AreTurnsWithoutIds x (t ∷ turns) us = (IsTurnOfKnown x t × AreTurnsWithoutIds t.after turns us)
    ⊎ ((u : Turn SeenAsked) × (later : List (Turn SeenAsked)) × (us ≡ u ∷ later) × IsTurnWithoutId x t u
    × AreTurnsWithoutIds t.after turns later)

-- the site without ids serves these lines by turns that are the others without their ids, and is then the other site
-- without ids
pub record ServesWithoutIds (answers : Answers SeenAsked) (start : SeenAsked) (turns : List (Turn SeenAsked))
    (lines : List (List ℕ)) : Type 0 where
  pub served : List (Turn SeenAsked)
  pub lines_are : lines ≡ map (λ (t : Turn SeenAsked). t.line) served
  pub are : AreTurns answers (strike start) served
  pub same : AreTurnsWithoutIds start turns served
  pub after : state_after (strike start) served ≡ strike (state_after start turns)

-- each list of turns is that of the site without ids over the lines without ids
abbrev pub TurnsAreServed : Answers SeenAsked → Type 0
TurnsAreServed answers = (start : SeenAsked) (turns : List (Turn SeenAsked)) (lines : List (List ℕ))
    → AreTurns answers start turns → AreLinesWithoutIds start turns lines → ServesWithoutIds answers start turns lines

-- the turns of a site that is asked with ids are turns of the site without ids over the lines with known ids left out
-- and ids struck out, with the same entries; and so are the turns of all runs, each with its own choice of what is
-- recorded
abbrev pub AskingIsServing : Type 0
AskingIsServing = ((all : Bool) → TurnsAreServed (SiteAnswers all)) × TurnsAreServed AnswersEither
