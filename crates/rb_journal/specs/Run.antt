-- The files and the outputs that a run over a journal may leave at any moment.
use Rattle.std.specs.Prelude.{◌≡◌, ℕ, List, ◌++◌, Option, Some, None, IfSome}
use Rattle.rb_lines.specs.Lines.{lines_of}
use Rattle.rb_journal.specs.Host.{AddsPrefix}
use Rattle.rb_journal.specs.Lines.{recovered}
use Rattle.rb_journal.specs.Turns.{Answers, AreTurns, IsOneBatch, Turn, lines_added, lines_answered, texts, to_answer}

-- what was read and not yet answered, and then what is still to be read, if that is known
abbrev pub served_input : List ℕ → Option (List ℕ) → Option (List ℕ)
served_input pending None = None
served_input pending (Some rest) = Some (pending ++ rest)

-- the turns answer the first lines of the input, in order, and skip none of them; its first line has this number
abbrev pub AreFirst : {S : Type 0} → ℕ → List (Turn S) → List ℕ → Type 0
AreFirst first turns input =
    (later : List (ℕ × List ℕ)) × (to_answer first (lines_of input) ≡ lines_answered turns ++ later)

-- the file contains the lines and all that some turns add, and texts of these turns are put out, from the first on
pub record IsRunOfTurns {S : Type 0} (answers : Answers S) (first : ℕ) (input : Option (List ℕ)) (start : S)
    (lines : List (List ℕ)) (output c d : List ℕ) : Type 0 where
  pub turns : List (Turn S)
  pub are : AreTurns answers start turns
  pub in_order : IfSome input (AreFirst first turns)
  pub lines_are : recovered c ≡ lines ++ lines_added turns
  pub output_is : AddsPrefix output (texts turns) d

-- the same; all of the text of the first turns was put out, and the others are one batch: of their text some was, from
-- the first byte on
pub record IsRunOfBatches {S : Type 0} (answers : Answers S) (first : ℕ) (input : Option (List ℕ)) (start : S)
    (lines : List (List ℕ)) (output c d : List ℕ) : Type 0 where
  pub done : List (Turn S)
  pub batch : List (Turn S)
  pub are : AreTurns answers start (done ++ batch)
  pub in_order : IfSome input (AreFirst first (done ++ batch))
  pub lines_are : recovered c ≡ lines ++ lines_added (done ++ batch)
  pub output_is : AddsPrefix (output ++ texts done) (texts batch) d
  pub one_batch : IsOneBatch batch
