-- The names so far, with those on the lines that are left, are all of them.
use Rattle.std.proofs.Common.{◌≡◌, ◌++◌, length, map}
use Rattle.rb_lines.specs.Lines.{lines_of}
use Rattle.rb_capi.specs.Close.{name_on}
use Rattle.rb_capi.proofs.names.names_on.Given as goal

abbrev pub invariant-lines : goal.invariant-lines
invariant-lines l = map (λ name. name.now) l.names.items ++ map name_on (lines_of l.rest) ≡ map name_on (lines_of l.lines)

abbrev pub decreases-lines : goal.decreases-lines
decreases-lines l = length l.rest
