-- The lines of a file.
use Rattle.std.specs.Prelude.{◌≡◌, ◌≢◌, ◌⊎◌, ◌||◌, ℕ, Bool, true, false, List, [], ◌∷◌, ◌++◌, if◌then◌else◌, ◌==◌}
use Rattle.std.specs.Prelude.{slice_index, All, length, drop, take_while}
use Rattle.std.specs.List.{concat}

-- a byte before lines belongs to the first of them, and is no line alone
abbrev pub joined : ℕ → List (List ℕ) → List (List ℕ)
joined b [] = []
joined b (line ∷ lines) = (b ∷ line) ∷ lines

-- the whole lines of a file, each up to its LF (10)
abbrev pub lines_in : List ℕ → List (List ℕ)
lines_in [] = []
lines_in (b ∷ bytes) = if b == 10 then (10 ∷ []) ∷ lines_in bytes else joined b (lines_in bytes)

-- the line begins with `{` (123)
abbrev pub is_open : List ℕ → Bool
is_open [] = false
is_open (b ∷ line) = b == 123

-- the lines of a file: those up to the first that doesn't begin with `{` or isn't whole
abbrev pub recovered : List ℕ → List (List ℕ)
recovered file = take_while is_open (lines_in file)

-- what comes after the lines of a file
abbrev pub behind_lines : List ℕ → List ℕ
behind_lines file = drop (length (concat (recovered file))) file

-- nothing, or a closed gate, a space (32), or a NUL in its place, and nothing else
abbrev pub is_bare_gate : List ℕ → Bool
is_bare_gate [] = true
is_bare_gate (b ∷ []) = b == 32 || b == 0
is_bare_gate (b ∷ c ∷ bytes) = false

-- of these bytes after lines, those that are kept if they are cut off: all, unless they are a bare gate
abbrev pub to_keep : List ℕ → List ℕ
to_keep bytes = if is_bare_gate bytes then [] else bytes

-- what a repair of the file cuts off it and keeps
abbrev pub what_is_cut : List ℕ → List ℕ
what_is_cut file = to_keep (behind_lines file)

-- what a crash may leave after lines: nothing; a closed gate, a space (32), or a NUL in its place, with any bytes
-- after it; or the front of one line, which begins with `{` and has no LF
abbrev pub MayBeBehind : List ℕ → Type 0
MayBeBehind [] = Unit {0}
MayBeBehind (b ∷ bytes) = (b ≡ 32) ⊎ (b ≡ 0) ⊎ ((b ≡ 123) × All (λ c. c ≢ 10) bytes)

-- a crash may leave the file: no other byte is at the place of a line's first, or of the gate
abbrev pub IsIntact : List ℕ → Type 0
IsIntact file = MayBeBehind (behind_lines file)

-- no crash leaves it
abbrev pub IsDamaged : List ℕ → Type 0
IsDamaged file = ¬ IsIntact file

-- these bytes are lines that begin with `{`, and nothing else
abbrev pub IsBatch : List ℕ → Type 0
IsBatch bytes = concat (recovered bytes) ≡ bytes

-- the lines, and then the closed gate, a space (32)
abbrev pub at_rest : List (List ℕ) → List ℕ
at_rest lines = concat lines ++ 32 ∷ []

-- the lines, and then, in the place of the gate, the seal, a TAB (9)
abbrev pub sealed : List (List ℕ) → List ℕ
sealed lines = concat lines ++ 9 ∷ []

-- a file is sealed: it has a line, and it is its lines and the seal, and nothing else
abbrev pub IsSealed : List ℕ → Type 0
IsSealed file = (recovered file ≢ []) × (file ≡ sealed (recovered file))

-- a line without its LF: it begins with `{`, and no byte of it is an LF
pub record IsLine (line : List ℕ) : Type 0 where
  pub begins : slice_index line 0 ≡ 123
  pub one : All (λ b. b ≢ 10) line
