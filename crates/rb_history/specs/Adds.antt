-- The bytes that a call adds to a list.
use Rattle.std.specs.Prelude.{◌≡◌, List, ℕ, ◌++◌, length, take, Result, MatchResult}

-- the text at the end, or after an `Err` something at the end
abbrev pub Adds : {A E : Type 0} → Result A E → List ℕ → List ℕ → List ℕ → Type 0
Adds r old new text = MatchResult r (λ _. new ≡ old ++ text) (λ _. take (length old) new ≡ old)
