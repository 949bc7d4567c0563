-- How a run ends, with the turns that were made by then.
use Rattle.std.specs.Prelude.{◌≡◌, ℕ, ◌^◌, ◌≤◌, List, [], ◌++◌, length, Option, Some, IfSome}
use Rattle.std.specs.Prelude.{Result, Ok, Err}
use Rattle.std.specs.List.{concat}
use Rattle.rb_lines.specs.Lines.{lines_of, whole_lines}
use Rattle.rb_journal.specs.Run.{AreFirst}
use Rattle.rb_journal.specs.Turns.{Answers, AreTurns, Turn, lines_added, lines_answered, texts, to_answer}
use Rattle.rb_journal.specs.declared.fault.ServeFault.{ServeFault}
use Rattle.rb_journal.specs.declared.fault.ServeFault.TheVariants.{Read, Write, Journal, OutOfMemory}

-- the journal has the lines and all that these turns add, and all of their text was put out
pub record IsPutOut {S : Type 0} (answers : Answers S) (start : S) (lines : List (List ℕ)) (output : List ℕ)
    (turns : List (Turn S)) (now : List (List ℕ)) (said : List ℕ) : Type 0 where
  pub are : AreTurns answers start turns
  pub lines_are : now ≡ lines ++ lines_added turns
  pub output_is : said ≡ output ++ texts turns

-- these bytes of the input were read, and each line of them that has its line feed was answered; the input's first line
-- has this number
pub record IsReadAnswered {S : Type 0} (first : ℕ) (turns : List (Turn S)) (left : Option (List ℕ)) (input : List ℕ) :
    Type 0 where
  pub taken : List ℕ
  pub rest : List ℕ
  pub left_is : left ≡ Some rest
  pub whole : input ≡ taken ++ rest
  pub answered : lines_answered turns ≡ to_answer first (whole_lines taken)

-- the turns are those of all lines, and n is how many lines were answered
abbrev pub AreAll : {S : Type 0} → ℕ → List (Turn S) → ℕ → Option (List ℕ) → Option (List ℕ) → Type 0
AreAll first turns n input left = (n ≡ length turns)
    × IfSome input (λ all. (lines_answered turns ≡ to_answer first (lines_of all)) × (left ≡ Some []))

-- the result of a run that ends at rest and made these turns; the input's first line has this number, and of the input
-- the last part isn't read yet
abbrev pub EndsAs : {S : Type 0} → ℕ → List (Turn S) → Option (List ℕ) → Option (List ℕ) → Result ℕ ServeFault → Type 0
EndsAs first turns input left (Ok n) = AreAll first turns n input left
EndsAs first turns input left (Err Read) = IfSome input (IsReadAnswered first turns left)
EndsAs first turns input left (Err Write) = ⊥
EndsAs first turns input left (Err Journal) = ⊥
EndsAs first turns input left (Err OutOfMemory) = ⊥

-- the run ends at rest: nothing has failed but a read
abbrev pub EndsAtRest : {T : Type 0} → Result T ServeFault → Type 0
EndsAtRest (Ok n) = Unit {0}
EndsAtRest (Err Read) = Unit {0}
EndsAtRest (Err Write) = ⊥
EndsAtRest (Err Journal) = ⊥
EndsAtRest (Err OutOfMemory) = ⊥

-- the lines, with those that turns for the first lines of the input add, are 2^60 bytes or more
pub record IsFull {S : Type 0} (answers : Answers S) (first : ℕ) (input : Option (List ℕ)) (start : S)
    (lines : List (List ℕ)) : Type 0 where
  pub turns : List (Turn S)
  pub are : AreTurns answers start turns
  pub in_order : IfSome input (AreFirst first turns)
  pub long : 2 ^ 60 ≤ length (concat (lines ++ lines_added turns))
