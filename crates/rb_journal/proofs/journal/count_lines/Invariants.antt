use Rattle.std.proofs.Common.{◌≡◌, ◌≤◌, ◌+◌, length}
use Rattle.std.specs.List.{concat}
use Rattle.rb_journal.specs.Lines.{recovered}
use Rattle.rb_journal.proofs.journal.count_lines.Given as goal

abbrev pub invariant-loop-last : goal.invariant-loop-last
invariant-loop-last l = record {
  so_far : l.end + length (concat (recovered l.rest)) ≡ length (concat (recovered l.bytes));
  counted : l.count + length (recovered l.rest) ≡ length (recovered l.bytes);
  few : l.count ≤ l.end;
  place : l.end + length l.rest ≡ length l.bytes;
}

abbrev pub decreases-loop-last : goal.decreases-loop-last
decreases-loop-last l = length l.rest
