-- A log of undo records, as clients see it.
use Rattle.std.specs.Prelude.{ℕ, List}
use Rattle.rb_undo.specs.declared.parts.UndoParts.{UndoParts}

-- the records in order, and how many more fit without memory
pub record Log : Type 0 where
  pub parts : List UndoParts
  pub room : ℕ
