-- Lines that are answered one after another: what they come to, how a run over them ends, and what was written by then.
use Rattle.std.specs.Prelude.{◌≡◌, ℕ, ◌+◌, ◌-◌, ◌≤◌, true, List, [], ◌∷◌, ◌++◌, Option, Some, None, Result, Ok, Err}
use Rattle.rb_lines.specs.Lines.{is_long, lines_of, whole_lines}
use Rattle.rb_lines.specs.Writes.{IsFront}
use Rattle.rb_lines.specs.declared.fault.ScriptFault.{ScriptFault}
use Rattle.rb_lines.specs.declared.fault.ScriptFault.TheVariants.{NoConfig, BadConfig, BadLine, LongLine, Read, Write, OutOfMemory, Gather}

-- what is written for some lines, how many were answered, and what is wrong with the first that is wrong
pub record LinesOutcome : Type 0 where
  pub text : List ℕ
  pub count : ℕ
  pub fault : Option ScriptFault

abbrev pub no_outcome : ScriptFault → LinesOutcome
no_outcome f = record { text = []; count = 0; fault = Some f }

-- the outcome, once this text of this number of answers comes before it
abbrev pub after_text : List ℕ → ℕ → LinesOutcome → LinesOutcome
after_text text count o = record { text = text ++ o.text; count = count + o.count; fault = o.fault }

-- ---- how a run ends; `of` gives the outcome of lines

-- the run ends at a line with this fault, and this is the text of the lines before
pub record IsFaulty (o : LinesOutcome) (text : List ℕ) (f : ScriptFault) : Type 0 where
  pub text_is : o.text ≡ text
  pub fault_is : o.fault ≡ Some f

-- no line so far is wrong
abbrev pub IsUnfinished : Option ScriptFault → Type 0
IsUnfinished None = Unit {0}
IsUnfinished (Some NoConfig) = Unit {0}
IsUnfinished (Some (BadConfig n)) = ⊥
IsUnfinished (Some (BadLine n)) = ⊥
IsUnfinished (Some (LongLine n)) = ⊥
IsUnfinished (Some Read) = ⊥
IsUnfinished (Some Write) = ⊥
IsUnfinished (Some OutOfMemory) = ⊥
IsUnfinished (Some Gather) = ⊥

-- these bytes of the input were read, and each line of them that has its line feed was answered
pub record IsAnswered (of : List (List ℕ) → LinesOutcome) (input rest text : List ℕ) : Type 0 where
  pub taken : List ℕ
  pub whole : input ≡ taken ++ rest
  pub text_is : (of (whole_lines taken)).text ≡ text
  pub unfinished : IsUnfinished (of (whole_lines taken)).fault

-- the result of a run over this input, of which the second part is left, that has written the text; a run over lines
-- gathers no histories
abbrev pub RunEndsAs : (List (List ℕ) → LinesOutcome) → Result ℕ ScriptFault → List ℕ → Option (List ℕ) → List ℕ → Type 0
RunEndsAs of (Ok n) input left text = (of (lines_of input) ≡ record { text = text; count = n; fault = None }) × (left ≡ Some [])
RunEndsAs of (Err NoConfig) input left text = IsFaulty (of (lines_of input)) text NoConfig
RunEndsAs of (Err (BadConfig n)) input left text = IsFaulty (of (lines_of input)) text (BadConfig n)
RunEndsAs of (Err (BadLine n)) input left text = IsFaulty (of (lines_of input)) text (BadLine n)
RunEndsAs of (Err (LongLine n)) input left text = IsFaulty (of (lines_of input)) text (LongLine n)
RunEndsAs of (Err Read) input left text = (rest : List ℕ) × (left ≡ Some rest) × IsAnswered of input rest text
RunEndsAs of (Err Write) input left text = IsFront text (of (lines_of input)).text
RunEndsAs of (Err OutOfMemory) input left text = IsFront text (of (lines_of input)).text
RunEndsAs of (Err Gather) input left text = ⊥

-- the same if some of the text is still to be written: whatever prefix of it goes out is a prefix of the whole text
abbrev pub RunWillEndAs : (List (List ℕ) → LinesOutcome) → Result ℕ ScriptFault → List ℕ → Option (List ℕ) → List ℕ → Type 0
RunWillEndAs of r input left text = RunEndsAs of r input left text × IsFront text (of (lines_of input)).text

-- ---- between two lines

-- what the lines to come come to, the number of the first of them, and how many were answered
pub record RunState : Type 0 where
  pub rest : List (List ℕ) → LinesOutcome
  pub number : ℕ
  pub count : ℕ

-- whatever answers lines: a line that is too long ends the run, and no line is no text and no bad line
pub record IsRunState (s : RunState) : Type 0 where
  pub long : (l : List ℕ) (ls : List (List ℕ)) → is_long l ≡ true → s.rest (l ∷ ls) ≡ no_outcome (LongLine s.number)
  pub no_text : (s.rest []).text ≡ []
  pub unfinished : IsUnfinished (s.rest []).fault

-- whatever the lines to come, no text answers any of them
abbrev pub IsSilent : RunState → Type 0
IsSilent s = (ls : List (List ℕ)) → (s.rest ls).text ≡ []

-- the line was answered by this text, and the run goes on with the next
pub record AnswersLine (old new : RunState) (l text : List ℕ) : Type 0 where
  pub follows : (ls : List (List ℕ)) → old.rest (l ∷ ls) ≡ after_text text (new.count - old.count) (new.rest ls)
  pub number : new.number ≡ old.number + 1
  pub count : old.count ≤ new.count
  pub one : new.count ≤ old.count + 1

-- there are no more lines: this number of them was answered, or there was no configuration
abbrev pub EndsWith : RunState → Result ℕ ScriptFault → Type 0
EndsWith s (Ok n) = (n ≡ s.count) × (s.rest [] ≡ record { text = []; count = 0; fault = None })
EndsWith s (Err f) = (f ≡ NoConfig) × (s.rest [] ≡ no_outcome NoConfig)

-- the run ends at this line, by one of three faults; nothing is said of running out of memory
abbrev pub EndsAtLine : RunState → List ℕ → ScriptFault → Type 0
EndsAtLine s l (BadConfig n) = (ls : List (List ℕ)) → s.rest (l ∷ ls) ≡ no_outcome (BadConfig n)
EndsAtLine s l (BadLine n) = (ls : List (List ℕ)) → s.rest (l ∷ ls) ≡ no_outcome (BadLine n)
EndsAtLine s l OutOfMemory = Unit {0}
EndsAtLine s l NoConfig = ⊥
EndsAtLine s l (LongLine n) = ⊥
EndsAtLine s l Read = ⊥
EndsAtLine s l Write = ⊥
EndsAtLine s l Gather = ⊥
