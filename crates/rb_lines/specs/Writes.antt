-- Texts that are written in parts.
use Rattle.std.specs.Prelude.{ℕ, Bool, true, ◌==◌, List, ◌++◌, ◌≡◌, Option, Result, Ok, Err}
use Rattle.std.specs.Io.KnownBytes.{Appends}

-- a write that failed, or that took nothing
abbrev pub moved_nothing : {E : Type 0} → Result ℕ E → Bool
moved_nothing (Ok n) = n == 0
moved_nothing (Err e) = true

-- the front is a prefix of the text
abbrev pub IsFront : List ℕ → List ℕ → Type 0
IsFront front text = (rest : List ℕ) × (text ≡ front ++ rest)

-- known bytes grow by a prefix of the text
abbrev pub AppendsFront : Option (List ℕ) → Option (List ℕ) → List ℕ → Type 0
AppendsFront old new text = (front : List ℕ) × IsFront front text × Appends old new front
