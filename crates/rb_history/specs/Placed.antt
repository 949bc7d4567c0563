-- Texts put into a slice of bytes.
use Rattle.std.specs.Prelude.{◌≡◌, List, ℕ, ◌+◌, ◌++◌, length, take}

-- the new bytes have a text after the first `at` of the old ones, up to `end`
pub record Placed (old new : List ℕ) (at : ℕ) (text : List ℕ) (end : ℕ) : Type 0 where
  pub bytes : take end new ≡ take at old ++ text
  pub moved : end ≡ at + length text
