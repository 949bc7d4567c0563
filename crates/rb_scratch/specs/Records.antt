-- The records of a scratch.
use Rattle.std.specs.Prelude.{List}
use Rattle.rb_undo.specs.declared.parts.UndoParts.{UndoParts}

-- the parts of each record, in order
pub record RecordList : Type 0 where
  pub parts : List UndoParts
