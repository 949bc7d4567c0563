-- The state of a script whose histories are asked for, between two lines.
use Rattle.std.specs.Prelude.{ℕ, List, Option, Some, None, Result, refl}
use Rattle.std.proofs.Common.{ap}
use Rattle.rb_lines.proofs.Public.Chosen.{first_chosen}
use Rattle.rb_lines.specs.Lines.{is_long}
use Rattle.rb_lines.specs.declared.fault.ScriptFault.{ScriptFault}
use Rattle.rb_runs.specs.declared.recorded.recorder.Recorder.{Recorder}
use Rattle.rb_runs.specs.Inputs.{Input}
use Rattle.rb_runs.specs.Recording.{recording_by, recording_from, recording_in}
use Rattle.rb_runs.specs.Script.{commands_from}
use Rattle.rb_runs.specs.Silent.{MakesInput}

-- the histories at the end of the lines to come, the first of which is line n: before the configuration and after it
abbrev pub recorder_rest : Option Recorder → ℕ → List (List ℕ) → Result Input ScriptFault
recorder_rest None n ls = recording_from n ls
recorder_rest (Some r) n ls = recording_by r.world (commands_from r.world.settings n ls)

-- a line that is too long ends the script, a blank one is skipped, and no line is no bad line
pub recorder_makes : MakesInput recorder_rest
recorder_makes = record {
  long = elim [
    | None ↦ λ n l ls is. first_chosen (is_long l) _ _ is
    | Some r ↦ λ n l ls is. ap (recording_by r.world) (first_chosen (is_long l) _ _ is)
  ];
  blank = elim [ None ↦ λ n l ls short is. rw (short, is) refl | Some r ↦ λ n l ls short is. rw (short, is) refl ];
  unopened = λ n. refl;
  ended = λ r n. (recording_in r.world, refl);
}
