-- Runs that answer no line: how their lines end, and what is said of an input before anything is written.
use Rattle.std.specs.Prelude.{◌≡◌, ◌+◌, ℕ, List, [], ◌∷◌, ◌++◌, Option, Some, None, Result, Ok, Err, true, false}
use Rattle.std.proofs.Common.{ap}
use Rattle.rb_lines.specs.Answers.{LinesOutcome, RunEndsAs, no_outcome}
use Rattle.rb_lines.specs.Lines.{is_blank, is_long, lines_of, whole_lines}
use Rattle.rb_lines.specs.declared.fault.ScriptFault.{ScriptFault}
use Rattle.rb_lines.specs.declared.fault.ScriptFault.TheVariants.{NoConfig, LongLine, Read, Write, OutOfMemory, Gather}
use Rattle.rb_runs.specs.Inputs.{Input}
use Rattle.rb_runs.specs.TakesLines.{TakesAll}

-- the lines of an input are answered by no text
abbrev pub input_outcome : Result Input ScriptFault → LinesOutcome
input_outcome (Ok x) = record { text = []; count = 0; fault = None }
input_outcome (Err f) = no_outcome f

-- lines come to no text, whatever input they make
abbrev pub unanswered : {S : Type 0} → (Option S → ℕ → List (List ℕ) → Result Input ScriptFault) → Option S → ℕ
    → List (List ℕ) → LinesOutcome
unanswered made o n ls = input_outcome (made o n ls)

-- whatever makes an input of lines: one that is too long is bad, a blank one is skipped, and the end is no bad line
pub record MakesInput {S : Type 0} (made : Option S → ℕ → List (List ℕ) → Result Input ScriptFault) : Type 0 where
  pub long : (o : Option S) (n : ℕ) (l : List ℕ) (ls : List (List ℕ)) → is_long l ≡ true → made o n (l ∷ ls) ≡ Err (LongLine n)
  pub blank : (o : Option S) (n : ℕ) (l : List ℕ) (ls : List (List ℕ)) → is_long l ≡ false → is_blank l ≡ true
      → made o n (l ∷ ls) ≡ made o (n + 1) ls
  pub unopened : (n : ℕ) → made None n [] ≡ Err NoConfig
  pub ended : (s : S) (n : ℕ) → (x : Input) × (made (Some s) n [] ≡ Ok x)

-- so it takes lines, and answers none
pub takes_unanswered : {S : Type 0} (made : Option S → ℕ → List (List ℕ) → Result Input ScriptFault) → MakesInput made
    → TakesAll (unanswered made) made
takes_unanswered made laws = record {
  long = λ o l is n ls. ap input_outcome (laws.long o n l ls is);
  blank = λ o n l ls short is. (ap input_outcome (laws.blank o n l ls short is), laws.blank o n l ls short is);
  unopened = λ n. ap input_outcome (laws.unopened n);
  ended = λ s n. ap input_outcome (laws.ended s n).1;
}

-- how a run over lines ended that answers none of them: all lines make what no line makes of what was opened
abbrev pub EndsSilently : {S M : Type 0} → (Option S → ℕ → List (List ℕ) → LinesOutcome) → (Option S → ℕ → List (List ℕ) → M)
    → Result (Option S) ScriptFault → List ℕ → Option (List ℕ) → Type 0
EndsSilently rest made (Ok o) input left = (left ≡ Some []) × (n : ℕ) × (made None 1 (lines_of input) ≡ made o n [])
EndsSilently rest made (Err f) input left = (text : List ℕ) × RunEndsAs (rest None 1) (Err f) input left text

-- ---- an input; `of` is what its lines say

-- no line so far is bad
abbrev pub IsUnfinishedInput : Result Input ScriptFault → Type 0
IsUnfinishedInput (Ok x) = Unit {0}
IsUnfinishedInput (Err NoConfig) = Unit {0}
IsUnfinishedInput (Err f) = ⊥

-- these bytes of the input were read, and no whole line of them is bad
pub record IsCollected (of : List (List ℕ) → Result Input ScriptFault) (input rest : List ℕ) : Type 0 where
  pub taken : List ℕ
  pub whole : input ≡ taken ++ rest
  pub unfinished : IsUnfinishedInput (of (whole_lines taken))

-- the first bad line of the input, or that there is no configuration; nothing was written
abbrev pub IsFaultyInput : (List (List ℕ) → Result Input ScriptFault) → List ℕ → List ℕ → ScriptFault → Type 0
IsFaultyInput of input text f = (of (lines_of input) ≡ Err f) × (text ≡ [])

-- the lines of the input, all of which were taken, say this
abbrev pub HasInput : (List (List ℕ) → Result Input ScriptFault) → Input → List ℕ → Option (List ℕ) → Type 0
HasInput of x input left = (of (lines_of input) ≡ Ok x) × (left ≡ Some [])

-- a run over this input, of which the second part is left, stopped at this fault before anything was written
abbrev pub StopsUnwritten : (List (List ℕ) → Result Input ScriptFault) → ScriptFault → List ℕ → Option (List ℕ) → List ℕ
    → Type 0
StopsUnwritten of Read input left text = (rest : List ℕ) × (left ≡ Some rest) × IsCollected of input rest × (text ≡ [])
StopsUnwritten of OutOfMemory input left text = text ≡ []
StopsUnwritten of Write input left text = ⊥
StopsUnwritten of Gather input left text = ⊥
StopsUnwritten of f input left text = IsFaultyInput of input text f
