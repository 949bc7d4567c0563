-- The answers over a journal: turns, one after another.
use Rattle.std.specs.Prelude.{◌≡◌, ◌≤◌, ◌+◌, ◌-◌, ◌&&◌, ℕ, Bool, not, List, [], ◌∷◌, ◌++◌, length, map, take}
use Rattle.std.specs.Prelude.{if◌then◌else◌}
use Rattle.std.specs.List.{concat, flat_map}
use Rattle.rb_lines.specs.Lines.{is_blank, is_long}
use Rattle.rb_lines.specs.declared.limits.TheConstants.{MOST_BATCHED}

-- an input line and its number, the lines that it adds to the journal, the text of its answer, and the state that it
-- leaves
pub record Turn (S : Type 0) : Type 0 where
  pub number : ℕ
  pub line : List ℕ
  pub added : List (List ℕ)
  pub text : List ℕ
  pub after : S

-- the lines that are answered, each with its number
abbrev pub lines_answered : {S : Type 0} → List (Turn S) → List (ℕ × List ℕ)
lines_answered {S} turns = map (λ (t : Turn S). (t.number, t.line)) turns

abbrev pub lines_added : {S : Type 0} → List (Turn S) → List (List ℕ)
lines_added {S} turns = flat_map (λ (t : Turn S). t.added) turns

abbrev pub texts : {S : Type 0} → List (Turn S) → List ℕ
texts {S} turns = flat_map (λ (t : Turn S). t.text) turns

-- what these turns add to the journal has at most `MOST_BATCHED` bytes, and so has their text
abbrev pub AreFew : {S : Type 0} → List (Turn S) → Type 0
AreFew turns = (length (concat (lines_added turns)) ≤ MOST_BATCHED) × (length (texts turns) ≤ MOST_BATCHED)

-- all of these turns but the last are few
abbrev pub IsOneBatch : {S : Type 0} → List (Turn S) → Type 0
IsOneBatch turns = AreFew (take (length turns - 1) turns)

-- what a responder may answer: in the first state, the input line of this number adds these lines, with this text, and
-- leaves the second state
abbrev pub Answers : Type 0 → Type 1
Answers S = S → ℕ → List ℕ → List (List ℕ) → List ℕ → S → Type 0

-- the state after turns
abbrev pub state_after : {S : Type 0} → S → List (Turn S) → S
state_after s [] = s
state_after s (t ∷ turns) = state_after t.after turns

-- each turn is an answer in the state that the one before it left
abbrev pub AreTurns : {S : Type 0} → Answers S → S → List (Turn S) → Type 0
AreTurns answers s [] = Unit {0}
AreTurns answers s (t ∷ turns) = answers s t.number t.line t.added t.text t.after × AreTurns answers t.after turns

-- a blank line has no answer, unless it is too long
abbrev pub is_skipped : List ℕ → Bool
is_skipped line = is_blank line && not (is_long line)

-- of these lines, of which the first has this number, those that have an answer, each with its number
abbrev pub to_answer : ℕ → List (List ℕ) → List (ℕ × List ℕ)
to_answer n [] = []
to_answer n (line ∷ lines) =
    if is_skipped line then to_answer (n + 1) lines else (n, line) ∷ to_answer (n + 1) lines

-- the responder took a line: what it adds is in the batch too, and its text comes after the others
pub record IsTurn {S : Type 0} (answers : Answers S) (old new : S) (lines lines_new batch batch_new : List (List ℕ))
    (number : ℕ) (line text text_new : List ℕ) : Type 0 where
  pub added : List (List ℕ)
  pub words : List ℕ
  pub answered : answers old number line added words new
  pub lines_are : lines_new ≡ lines ++ added
  pub batch_is : batch_new ≡ batch ++ added
  pub text_is : text_new ≡ text ++ words
