-- When a run reads.
use Rattle.std.specs.Prelude.{◌≡◌, ℕ, List, ◌++◌, Option, IfSome}
use Rattle.rb_journal.specs.Ends.{IsReadAnswered}
use Rattle.rb_journal.specs.Turns.{Answers, AreTurns, Turn, texts}

-- all lines that have come whole were answered, and their answers came after the output: of the input, whose
-- first line has the first number, this is still to be read, and this was put out
pub record IsAnsweredSoFar {S : Type 0} (answers : Answers S) (start : S) (first : ℕ) (input : Option (List ℕ))
    (output : List ℕ) (left : Option (List ℕ)) (said : List ℕ) : Type 0 where
  pub turns : List (Turn S)
  pub are : AreTurns answers start turns
  pub answered : IfSome input (IsReadAnswered first turns left)
  pub put_out : said ≡ output ++ texts turns
