-- A run over the lines of a migration is a run from its first line.
use Rattle.rb_runs.proofs.Words.{List, ℕ, subst, IfSome, Appends, RunEndsAs, migration_rest, lines_state}
use Rattle.rb_runs.proofs.migrate.run.run_migrate.Goals as goal

pub returns-clause-written : goal.returns-clause-written
returns-clause-written g c =
    subst (λ s. (text : List ℕ) × Appends (g.W.Sink.contents c.args.writer.now) (g.W.Sink.contents c.run_lines-answered.new.writer) text
    × IfSome (g.S.Source.remaining c.args.reader.now.source)
    (λ input. RunEndsAs (lines_state migration_rest s).rest c.run_lines-answered.result
    input (g.S.Source.remaining c.run_lines-answered.new.reader) text)) c.new-lines.ensures c.run_lines-answered.ensures.written
