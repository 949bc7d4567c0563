-- The lines of a migration: configuration and entries in version 2 of the format, up to the first line that is bad.
use Rattle.std.specs.Prelude.{ℕ, ◌+◌, List, [], ◌∷◌, ◌++◌, Option, None, Result, codes, if◌then◌else◌}
use Rattle.std.specs.Option.{option_map_or}
use Rattle.serde_json.specs.Written.{compact_text}
use Rattle.rb_money.specs.Settings.{Settings, in_version_2}
use Rattle.rb_history.specs.Configurations.{config_on}
use Rattle.rb_history.specs.ConfigLines.{config_json}
use Rattle.rb_history.specs.Entries.{asked_entry_json, asked_entry_on}
use Rattle.rb_history.specs.Ids.{AskedEntry}
use Rattle.rb_lines.specs.Answers.{LinesOutcome, RunEndsAs, after_text, no_outcome}
use Rattle.rb_lines.specs.Lines.{is_blank, is_long}
use Rattle.rb_lines.specs.declared.fault.ScriptFault.{ScriptFault}
use Rattle.rb_lines.specs.declared.fault.ScriptFault.TheVariants.{NoConfig, BadConfig, BadLine, LongLine}

-- the line of a configuration in version 2
abbrev pub migrated_config_line : Settings → List ℕ
migrated_config_line s = compact_text (config_json (in_version_2 s)) ++ codes "\n"

-- the line of a site's entry in version 2, with its id, if it has one
abbrev pub migrated_entry_line : Settings → ℕ × AskedEntry → List ℕ
migrated_entry_line s x = compact_text (asked_entry_json (in_version_2 s) x.0 x.1) ++ codes "\n"

-- what lines of entries come to, the first of which is line n
abbrev pub entries_from : Settings → ℕ → List (List ℕ) → LinesOutcome
entries_from s n [] = record { text = []; count = 0; fault = None }
entries_from s n (l ∷ ls) = if is_long l then no_outcome (LongLine n) else (if is_blank l then entries_from s (n + 1) ls
    else option_map_or (λ (x : ℕ × AskedEntry). after_text (migrated_entry_line s x) 1 (entries_from s (n + 1) ls)) (asked_entry_on s l)
    (no_outcome (BadLine n)))

-- the first line that isn't skipped is the configuration, and entries follow
abbrev pub migration_from : ℕ → List (List ℕ) → LinesOutcome
migration_from n [] = no_outcome NoConfig
migration_from n (l ∷ ls) = if is_long l then no_outcome (LongLine n) else (if is_blank l then migration_from (n + 1) ls
    else option_map_or (λ s. after_text (migrated_config_line s) 1 (entries_from s (n + 1) ls)) (config_on l) (no_outcome (BadConfig n)))

-- what a migration of these lines comes to
abbrev pub migration_of : List (List ℕ) → LinesOutcome
migration_of ls = migration_from 1 ls

-- the result of a run over this input that left the second part of it and wrote the text
abbrev pub MigrationEndsAs : Result ℕ ScriptFault → List ℕ → Option (List ℕ) → List ℕ → Type 0
MigrationEndsAs r input left text = RunEndsAs migration_of r input left text
