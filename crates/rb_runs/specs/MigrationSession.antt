-- The state of a migration between two lines.
use Rattle.std.specs.Prelude.{ℕ, List, Option, Some, None, refl}
use Rattle.rb_lines.proofs.Public.Chosen.{first_chosen}
use Rattle.rb_lines.specs.Answers.{LinesOutcome}
use Rattle.rb_lines.specs.Lines.{is_long}
use Rattle.rb_money.specs.Settings.{Settings}
use Rattle.rb_runs.specs.Migration.{entries_from, migration_from}
use Rattle.rb_runs.specs.TakesLines.{TakesAll, makes_nothing}

-- the outcome of the lines to come, the first of which is line n: before the configuration and after it
abbrev pub migration_rest : Option Settings → ℕ → List (List ℕ) → LinesOutcome
migration_rest None n ls = migration_from n ls
migration_rest (Some s) n ls = entries_from s n ls

-- a line that is too long ends the migration, a blank one is skipped, and no line is written as nothing
pub migration_takes : TakesAll migration_rest makes_nothing
migration_takes = record {
  long = elim [ None ↦ λ l is n ls. first_chosen (is_long l) _ _ is | Some s ↦ λ l is n ls. first_chosen (is_long l) _ _ is ];
  blank = elim [
    | None ↦ λ n l ls short is. (rw (short, is) refl, refl)
    | Some s ↦ λ n l ls short is. (rw (short, is) refl, refl)
  ];
  unopened = λ n. refl;
  ended = λ s n. refl;
}
