-- Tokens that are read alike, whatever follows them.
use Rattle.std.specs.Prelude.{◌≡◌, ℕ, List, ◌++◌}
use Rattle.json.specs.Lex.{between, lex}

-- a text of whole tokens: two texts that are read alike are so after it too
abbrev pub AreTokens : List ℕ → Type 0
AreTokens front = (xs ys : List ℕ) → lex between xs ≡ lex between ys → lex between (front ++ xs) ≡ lex between (front ++ ys)

-- tokens of a text, added to others without the blanks between them, and what is left of the text: it is read as before
pub record JoinsTokens (old new text rest : List ℕ) : Type 0 where
  pub more : List ℕ
  pub added : new ≡ old ++ more
  pub whole : AreTokens more
  pub read : lex between (more ++ rest) ≡ lex between text
