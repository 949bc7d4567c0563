-- The state of a script between two lines, and what one line does.
use Rattle.std.specs.Prelude.{◌≡◌, ℕ, List, Option, Some, None, refl}
use Rattle.std.proofs.Common.{ap}
use Rattle.rb_lines.proofs.Public.Chosen.{first_chosen}
use Rattle.rb_lines.specs.Answers.{LinesOutcome}
use Rattle.rb_lines.specs.Lines.{is_long}
use Rattle.rb_site.specs.declared.reply.Reply.{Reply}
use Rattle.rb_site.specs.declared.world_event.WorldEvent.{WorldEvent}
use Rattle.rb_world.specs.Laws.{SeenWorld, next_reply, next_world}
use Rattle.rb_runs.specs.declared.script.session.Session.{Session}
use Rattle.rb_runs.specs.Script.{commands_from, script_outcome, script_from}
use Rattle.rb_runs.specs.TakesLines.{TakesAll, makes_nothing}

-- the outcome of the lines to come, the first of which is line n: before the configuration and after it
abbrev pub session_rest : Option Session → ℕ → List (List ℕ) → LinesOutcome
session_rest None n ls = script_from n ls
session_rest (Some s) n ls = script_outcome s.world (commands_from s.world.settings n ls)

-- a line that is too long ends the script, a blank one is skipped, and no line asks for nothing
pub session_takes : TakesAll session_rest makes_nothing
session_takes = record {
  long = elim [
    | None ↦ λ l is n ls. first_chosen (is_long l) _ _ is
    | Some s ↦ λ l is n ls. ap (script_outcome s.world) (first_chosen (is_long l) _ _ is)
  ];
  blank = elim [
    | None ↦ λ n l ls short is. (rw (short, is) refl, refl)
    | Some s ↦ λ n l ls short is. (rw (short, is) refl, refl)
  ];
  unopened = λ n. refl;
  ended = λ s n. refl;
}

-- there is a command, and the world took it and replied this
pub record TakesCommand (asked : Option WorldEvent) (old new : SeenWorld) (reply : Reply) : Type 0 where
  pub command : WorldEvent
  pub is_command : asked ≡ Some command
  pub world : new ≡ next_world old command
  pub reply_is : reply ≡ next_reply old command
