-- One line more was taken, or it has the first fault.
use Rattle.rb_runs.proofs.Words.{ap, ◌∙◌, arith, lines_of, with_lines}
use Rattle.rb_runs.proofs.Taken.{entry_more}
use Rattle.rb_runs.proofs.books.closing.take_entries.Goals as goal

pub lines-preserved : goal.lines-preserved
lines-preserved c =
    let a = c.lines.auditor in
    let site = c.args.site in
    let n = c.lines.number in
    let entry = c.in_ok-take_entry.ensures in
    record {
      follows = c.lines.invariant.follows
          ∙ ap (λ ls. with_lines a.settings site a.histories n ls) c.split_line.ensures.split
          ∙ entry_more a c.take_entry.new.auditor site n c.split_line.result.0.now (lines_of c.split_line.result.1.now) entry.0
          entry.1 entry.2;
      number = omega (arith, c.split_line.ensures.shorter, c.lines.invariant.number);
    }
