-- The histories of a script: its configuration, and the entries that its sites recorded once it was run.
use Rattle.std.specs.Prelude.{◌≡◌, ◌⊎◌, ℕ, ◌+◌, List, [], ◌∷◌, Option, Some, Result, Ok, Err, if◌then◌else◌}
use Rattle.std.specs.Option.{option_map_or}
use Rattle.rb_site.specs.Histories.{histories_of}
use Rattle.rb_world.specs.Laws.{SeenWorld, next_worlds, opened}
use Rattle.rb_history.specs.Configurations.{config_on}
use Rattle.rb_lines.specs.Lines.{is_blank, is_long, lines_of}
use Rattle.rb_lines.specs.Writes.{IsFront}
use Rattle.rb_lines.specs.declared.fault.ScriptFault.{ScriptFault}
use Rattle.rb_lines.specs.declared.fault.ScriptFault.TheVariants.{NoConfig, BadConfig, LongLine, Write, OutOfMemory}
use Rattle.rb_runs.specs.Inputs.{Input}
use Rattle.rb_runs.specs.Script.{Commands, commands_from}
use Rattle.rb_runs.specs.Silent.{StopsUnwritten}
use Rattle.rb_runs.specs.Texts.{text_of}

-- the histories of a world's sites, at its configuration
abbrev pub recording_in : SeenWorld → Input
recording_in w = record { settings = w.settings; histories = histories_of w.settings w.world }

-- the histories of the world's run of a script's commands, or what is wrong with the first bad line
abbrev pub recording_by : SeenWorld → Commands → Result Input ScriptFault
recording_by w cs = option_map_or (λ f. Err f) cs.fault (Ok (recording_in (next_worlds w cs.commands)))

-- the first line that isn't skipped is the configuration, and commands follow
abbrev pub recording_from : ℕ → List (List ℕ) → Result Input ScriptFault
recording_from n [] = Err NoConfig
recording_from n (l ∷ ls) = if is_long l then Err (LongLine n) else (if is_blank l then recording_from (n + 1) ls
    else option_map_or (λ s. recording_by (opened s) (commands_from s (n + 1) ls)) (config_on l) (Err (BadConfig n)))

-- the histories of a script of these lines
abbrev pub recording_of : List (List ℕ) → Result Input ScriptFault
recording_of ls = recording_from 1 ls

-- ---- how a run ends

-- the text is a prefix of the lines of a configuration and of its sites' histories, which the script in the input has
abbrev pub BeginsHistories : List ℕ → List ℕ → Type 0
BeginsHistories input text = (x : Input) × (recording_of (lines_of input) ≡ Ok x) × IsFront text (text_of x.settings x.histories)

-- the result of a run over the script in this input that left the second part of it and wrote the text: all lines of
-- the histories, or at a fault of the script nothing
abbrev pub HistoriesEndAs : Result Unit ScriptFault → List ℕ → Option (List ℕ) → List ℕ → Type 0
HistoriesEndAs (Ok u) input left text = (x : Input) × (recording_of (lines_of input) ≡ Ok x)
    × (text ≡ text_of x.settings x.histories) × (left ≡ Some [])
HistoriesEndAs (Err Write) input left text = BeginsHistories input text
HistoriesEndAs (Err OutOfMemory) input left text = (text ≡ []) ⊎ BeginsHistories input text
HistoriesEndAs (Err f) input left text = StopsUnwritten recording_of f input left text
