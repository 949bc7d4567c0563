-- The lines so far were taken.
use Rattle.rb_runs.proofs.Words.{◌≡◌, ◌+◌, ◌≤◌, length, lines_of, with_lines}
use Rattle.rb_runs.proofs.books.closing.take_entries.Given as goal

abbrev pub invariant-lines : goal.invariant-lines
invariant-lines l = record {
  follows : with_lines l.initial.auditor.settings l.site l.initial.auditor.histories 2 (lines_of l.lines)
      ≡ with_lines l.auditor.settings l.site l.auditor.histories l.number (lines_of l.rest);
  number : l.number + length l.rest ≤ length l.lines + 2;
}

abbrev pub decreases-lines : goal.decreases-lines
decreases-lines l = length l.rest
