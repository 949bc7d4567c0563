-- The shape of a reason's text.
use Rattle.std.specs.Prelude.{◌≡◌, ◌≤◌, ◌<◌, ◌+◌, ◌++◌, ℕ, List, All, codes, decimal}

-- bytes from the space to ~: no line feed is among them
abbrev pub IsPlain : List ℕ → Type 0
IsPlain bytes = All (λ b. (32 ≤ b) × (b < 127)) bytes

-- three lines, each after two spaces: a column and what is wrong there, a part of the line, and a caret
abbrev pub reason_text : ℕ → List ℕ → List ℕ → List ℕ → List ℕ → List ℕ
reason_text column why before behind blanks =
    codes "  column " ++ (decimal column ++ (codes ": " ++ (why
    ++ (codes "\n  " ++ (before ++ (behind ++ (codes "\n  " ++ (blanks ++ codes "^"))))))))

-- the first of these lines by itself
abbrev pub short_text : ℕ → List ℕ → List ℕ
short_text column why = codes "column " ++ (decimal column ++ (codes ": " ++ why))

-- why a line with this many bytes was refused, on one line
abbrev pub IsShortReason : ℕ → List ℕ → Type 0
IsShortReason len text =
    (column : ℕ) × (why : List ℕ) × (1 ≤ column) × (column ≤ len + 1) × IsPlain why × (text ≡ short_text column why)

-- why a line with this many bytes was refused: the column is from 1 to one more than the line has bytes, and all that
-- comes from the line is plain
abbrev pub IsReason : ℕ → List ℕ → Type 0
IsReason len text = (column : ℕ) × (why before behind blanks : List ℕ) × (1 ≤ column) × (column ≤ len + 1)
    × IsPlain why × IsPlain before × IsPlain behind × IsPlain blanks
    × (text ≡ reason_text column why before behind blanks)
