use Rattle.rb_runs.proofs.Words.{migrated_entry_line}
use Rattle.rb_runs.proofs.Ends.{answers}
use Rattle.rb_runs.proofs.migrate.versions.VersionsTakesLines.take.Goals as goal

pub returns : goal.returns
returns c =
    let (x, on, owes) = c.in_ok-answer_entry.ensures.answered in
    let s = c.args.self.now in
    (migrated_entry_line s x, owes, answers s x c.args.line.now c.requires.short c.requires.some on)
