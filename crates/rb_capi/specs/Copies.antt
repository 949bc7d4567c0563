-- A text, copied to C.
use Rattle.std.specs.Prelude.{◌≡◌, ℕ, List, ◌++◌, length, take, drop}

-- a buffer once a text was put at its beginning, as much of it as there is capacity for: what is after it stays
abbrev pub buffer_with : List ℕ → List ℕ → List ℕ
buffer_with text before = take (length before) text ++ drop (length text) before

-- the text was put at the buffer's beginning, as much of it as fits, and n is how many bytes the whole text has
pub record Copies (text old new : List ℕ) (n : ℕ) : Type 0 where
  pub buffer : new ≡ buffer_with text old
  pub length_is : n ≡ length text
