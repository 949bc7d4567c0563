-- How far the lines of an audit were collected.
use Rattle.std.specs.Prelude.{ℕ, List, Option, Some, None, Result, refl}
use Rattle.rb_lines.proofs.Public.Chosen.{first_chosen}
use Rattle.rb_lines.specs.Lines.{is_long}
use Rattle.rb_lines.specs.declared.fault.ScriptFault.{ScriptFault}
use Rattle.rb_runs.specs.declared.audit.collected.Collected.{Collected}
use Rattle.rb_runs.specs.Inputs.{Input, input_after, input_from}
use Rattle.rb_runs.specs.Silent.{MakesInput}

-- what the lines to come make of the input, the first of which is line n: before the configuration and after it
abbrev pub input_rest : Option Collected → ℕ → List (List ℕ) → Result Input ScriptFault
input_rest None n ls = input_from n ls
input_rest (Some c) n ls = input_after c.auditor.settings c.auditor.histories n ls

-- a line that is too long ends the audit, a blank one is skipped, and no line is no bad line
pub collected_makes : MakesInput input_rest
collected_makes = record {
  long = elim [ None ↦ λ n l ls is. first_chosen (is_long l) _ _ is | Some c ↦ λ n l ls is. first_chosen (is_long l) _ _ is ];
  blank = elim [ None ↦ λ n l ls short is. rw (short, is) refl | Some c ↦ λ n l ls short is. rw (short, is) refl ];
  unopened = λ n. refl;
  ended = λ c n. (record { settings = c.auditor.settings; histories = c.auditor.histories }, refl);
}
