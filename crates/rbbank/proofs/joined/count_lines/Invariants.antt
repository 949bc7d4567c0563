-- The lines so far and those that are left are all lines.
use Rattle.std.proofs.Common.{◌≡◌, ◌+◌, ◌≤◌, length}
use Rattle.rb_lines.specs.Lines.{lines_of}
use Rattle.rbbank.proofs.joined.count_lines.Given as goal

abbrev pub invariant-lines : goal.invariant-lines
invariant-lines l = record {
  counted : l.count + length (lines_of l.rest) ≡ length (lines_of l.text);
  fits : l.count + length l.rest ≤ length l.text;
}

abbrev pub decreases-lines : goal.decreases-lines
decreases-lines l = length l.rest
