-- A run over the lines is one from before the first.
use Rattle.rb_runs.proofs.Words.{Err, ap, sym, ◌∙◌, false≢true, NotWritten}
use Rattle.rb_runs.proofs.Unanswered.{all_taken, is_silent, same_reason, stopped_at}
use Rattle.rb_runs.proofs.silent.take_lines.Goals as goal

pub returns-in-Ok-clause-written : goal.returns-in-Ok-clause-written
returns-in-Ok-clause-written g c = (c.in-Ok.ensures.silent
    (is_silent g.T.TakesLines.rest g.T.TakesLines.made c.new-lines.result c.new-lines.ensures c.requires.silent)).0

pub returns-in-Ok-clause-fresh : goal.returns-in-Ok-clause-fresh
returns-in-Ok-clause-fresh g c = (c.in-Ok.ensures.silent
    (is_silent g.T.TakesLines.rest g.T.TakesLines.made c.new-lines.result c.new-lines.ensures c.requires.silent)).1

pub returns-in-Ok-clause-input : goal.returns-in-Ok-clause-input
returns-in-Ok-clause-input g c =
    all_taken g.T.TakesLines.rest g.T.TakesLines.made c.new-lines.result c.new-lines.ensures (g.S.Source.remaining c.args.reader.now.source)
    (g.S.Source.remaining c.run_lines.new.reader) c.in-Ok._answered c.in-Ok.ensures.written.0 c.run_lines.new.responder
    c.into_opened.result c.into_opened.ensures c.in-Ok.ensures.written.2 c.in-Ok.ensures.made

pub returns-in-Err-clause-written : goal.returns-in-Err-clause-written
returns-in-Err-clause-written g c = (c.in-Err.ensures.silent
    (is_silent g.T.TakesLines.rest g.T.TakesLines.made c.new-lines.result c.new-lines.ensures c.requires.silent)).0

pub returns-in-Err-clause-fresh : goal.returns-in-Err-clause-fresh
returns-in-Err-clause-fresh g c = (c.in-Err.ensures.silent
    (is_silent g.T.TakesLines.rest g.T.TakesLines.made c.new-lines.result c.new-lines.ensures c.requires.silent)).1

pub returns-in-Err-clause-input : goal.returns-in-Err-clause-input
returns-in-Err-clause-input g c =
    stopped_at g.T.TakesLines.rest g.T.TakesLines.made c.new-lines.result c.new-lines.ensures
    (g.S.Source.remaining c.args.reader.now.source) (g.S.Source.remaining c.run_lines.new.reader)
    c.in-Err.fault c.in-Err.ensures.written.0 c.in-Err.ensures.written.2

pub returns-in-Err-clause-write : goal.returns-in-Err-clause-write
returns-in-Err-clause-write g c e =
    let quiet = c.in-Err.ensures.silent
    (is_silent g.T.TakesLines.rest g.T.TakesLines.made c.new-lines.result c.new-lines.ensures c.requires.silent) in
    false≢true (sym quiet.1 ∙ c.in-Err.ensures.write.0 (ap Err (same_reason c.in-Err.fault NotWritten e)))
