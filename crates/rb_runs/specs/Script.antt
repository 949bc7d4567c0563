-- A script by its lines: its configuration and its commands, up to the first line that is bad.
use Rattle.std.specs.Prelude.{ℕ, ◌+◌, List, [], ◌∷◌, length, Option, Some, None, Result, if◌then◌else◌, flat_map}
use Rattle.std.specs.Option.{option_map_or}
use Rattle.rb_money.specs.Settings.{Settings}
use Rattle.rb_site.specs.declared.world_event.WorldEvent.{WorldEvent}
use Rattle.rb_world.specs.Laws.{SeenWorld, next_replies, opened}
use Rattle.rb_history.specs.Configurations.{config_on}
use Rattle.rb_history.specs.Replies.{line}
use Rattle.rb_history.specs.OnLines.{command_on}
use Rattle.rb_lines.specs.Answers.{LinesOutcome, RunEndsAs, no_outcome}
use Rattle.rb_lines.specs.Lines.{is_blank, is_long}
use Rattle.rb_lines.specs.declared.fault.ScriptFault.{ScriptFault}
use Rattle.rb_lines.specs.declared.fault.ScriptFault.TheVariants.{NoConfig, BadConfig, BadLine, LongLine}

-- a script's commands up to its first bad line, and what is wrong with that
pub record Commands : Type 0 where
  pub commands : List WorldEvent
  pub fault : Option ScriptFault

abbrev pub stops : ScriptFault → Commands
stops f = record { commands = []; fault = Some f }

abbrev pub with_command : WorldEvent → Commands → Commands
with_command c rest = record { commands = c ∷ rest.commands; fault = rest.fault }

-- the commands on these lines, the first of which is line n
abbrev pub commands_from : Settings → ℕ → List (List ℕ) → Commands
commands_from s n [] = record { commands = []; fault = None }
commands_from s n (l ∷ ls) = if is_long l then stops (LongLine n) else (if is_blank l then commands_from s (n + 1) ls
    else option_map_or (λ c. with_command c (commands_from s (n + 1) ls)) (command_on s l) (stops (BadLine n)))

-- ---- what a script comes to

-- the lines of the replies that the world's run gives to the commands
abbrev pub script_outcome : SeenWorld → Commands → LinesOutcome
script_outcome w cs = record { text = flat_map line (next_replies w cs.commands); count = length cs.commands; fault = cs.fault }

-- the first line that isn't skipped is the configuration, and commands follow
abbrev pub script_from : ℕ → List (List ℕ) → LinesOutcome
script_from n [] = no_outcome NoConfig
script_from n (l ∷ ls) = if is_long l then no_outcome (LongLine n) else (if is_blank l then script_from (n + 1) ls
    else option_map_or (λ s. script_outcome (opened s) (commands_from s (n + 1) ls)) (config_on l) (no_outcome (BadConfig n)))

-- what a script of these lines comes to
abbrev pub script_of : List (List ℕ) → LinesOutcome
script_of ls = script_from 1 ls

-- the result of a run over this input that left the second part of it and wrote the text
abbrev pub ScriptEndsAs : Result ℕ ScriptFault → List ℕ → Option (List ℕ) → List ℕ → Type 0
ScriptEndsAs r input left text = RunEndsAs script_of r input left text
