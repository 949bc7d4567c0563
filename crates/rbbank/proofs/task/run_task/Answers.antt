-- The run of the task was done.
use Rattle.std.proofs.Common.{subst, sym}
use Rattle.rbbank.specs.Tasks.{DoesTask}
use Rattle.rbbank.proofs.task.run_task.Goals as goal

pub returns-in-Script-clause-done : goal.returns-in-Script-clause-done
returns-in-Script-clause-done g c =
    let ran = c.run_script.ensures in (
      ran.written.0,
      ran.written.1,
      subst (λ t. DoesTask t c.well.result (g.S.Source.remaining c.args.reader.now.source)
          (g.S.Source.remaining c.run_script.new.reader.source) ran.written.0) (sym c.in-Script.is)
          (c.run_script.result, c.well.ensures, (ran.gather, ran.written.2)),
    )

pub returns-in-Histories-clause-done : goal.returns-in-Histories-clause-done
returns-in-Histories-clause-done g c =
    let ran = c.run_histories.ensures in (
      ran.written.0,
      ran.written.1,
      subst (λ t. DoesTask t c.well-in-Histories.result (g.S.Source.remaining c.args.reader.now.source)
          (g.S.Source.remaining c.run_histories.new.reader.source) ran.written.0) (sym c.in-Histories.is)
          (c.run_histories.result, c.well-in-Histories.ensures, (ran.gather, ran.written.2)),
    )

pub returns-in-Migrate-clause-done : goal.returns-in-Migrate-clause-done
returns-in-Migrate-clause-done g c =
    let ran = c.run_migrate.ensures in (
      ran.written.0,
      ran.written.1,
      subst (λ t. DoesTask t c.well-in-Migrate.result (g.S.Source.remaining c.args.reader.now.source)
          (g.S.Source.remaining c.run_migrate.new.reader.source) ran.written.0) (sym c.in-Migrate.is)
          (c.run_migrate.result, c.well-in-Migrate.ensures, (ran.gather, ran.written.2)),
    )
