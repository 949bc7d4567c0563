-- A text that goes out in parts.
use Rattle.std.specs.Prelude.{ℕ, List, Option, Result, Ok, Err}
use Rattle.rb_lines.specs.Buffers.{Sends}
use Rattle.rb_lines.specs.Writes.{AppendsFront}
use Rattle.rb_runs.specs.declared.recorded.unwritten.Unwritten.{Unwritten}

-- some of the text went out, and the rest is still buffered; or a prefix of it went out, and that was all
abbrev pub Writes : Result Unit Unwritten → Option (List ℕ) → Option (List ℕ) → List ℕ → List ℕ → Type 0
Writes (Ok u) had has text still = Sends had has text still
Writes (Err why) had has text still = AppendsFront had has text
