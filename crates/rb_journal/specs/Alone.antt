-- The answer to one line.
use Rattle.std.specs.Prelude.{◌≡◌, ◌⊎◌, ℕ, List, [], ◌∷◌, ◌++◌}
use Rattle.rb_journal.specs.Turns.{Answers, AreTurns, Turn, lines_added, lines_answered, state_after, texts, to_answer}

-- the line of this number was answered as among others: it has one turn, or none if it is skipped; what the turn adds is
-- the batch, which comes after the lines, and the text is the turn's
pub record IsAnsweredAlone {S : Type 0} (answers : Answers S) (old new : S) (lines lines_new batch : List (List ℕ)) (number : ℕ)
    (line text : List ℕ) : Type 0 where
  pub turns : List (Turn S)
  pub are : AreTurns answers old turns
  pub these : lines_answered turns ≡ to_answer number (line ∷ [])
  pub after : new ≡ state_after old turns
  pub batch_is : batch ≡ lines_added turns
  pub lines_are : lines_new ≡ lines ++ batch
  pub text_is : text ≡ texts turns

-- one or the other
abbrev pub AreEither : List (List ℕ) → List (List ℕ) → List (List ℕ) → Type 0
AreEither before after lines = (lines ≡ before) ⊎ (lines ≡ after)
