-- Tasks with lines.
use Rattle.std.specs.Prelude.{◌≡◌, ◌≢◌, ℕ, Bool, true, List, Option, IfSome, Result, Ok, Err}
use Rattle.rb_lines.specs.declared.fault.ScriptFault.{ScriptFault}
use Rattle.rb_lines.specs.declared.fault.ScriptFault.TheVariants.{Gather}
use Rattle.rb_runs.specs.Script.{ScriptEndsAs}
use Rattle.rb_runs.specs.Recording.{HistoriesEndAs}
use Rattle.rb_runs.specs.Audit.{AuditEndsAs}
use Rattle.rb_runs.specs.Migration.{MigrationEndsAs}
use Rattle.rbbank.specs.declared.task.Task.{Task}
use Rattle.rbbank.specs.declared.task.Task.TheVariants.{Script, Histories, Audit, Migrate}

-- nothing is wrong where a run has an answer
abbrev pub well_of : {A : Type 0} → Result A ScriptFault → Result Bool ScriptFault
well_of (Ok answer) = Ok true
well_of (Err fault) = Err fault

-- a run that comes to this ended as its definition says, wherever the reader's bytes are known, and this text was
-- written. None gathers histories
abbrev pub EndsBy : {A : Type 0} → (Result A ScriptFault → List ℕ → Option (List ℕ) → List ℕ → Type 0) → Result A ScriptFault
    → Option (List ℕ) → Option (List ℕ) → List ℕ → Type 0
EndsBy EndsAs ran bytes left text = (ran ≢ Err Gather) × IfSome bytes (λ input. EndsAs ran input left text)

-- the task was done by the definition of its own run. Only an audit's answer may be that something is wrong
abbrev pub DoesTask : Task → Result Bool ScriptFault → Option (List ℕ) → Option (List ℕ) → List ℕ → Type 0
DoesTask Script r bytes left text = (ran : Result ℕ ScriptFault) × (r ≡ well_of ran) × EndsBy ScriptEndsAs ran bytes left text
DoesTask Histories r bytes left text = (ran : Result Unit ScriptFault) × (r ≡ well_of ran) × EndsBy HistoriesEndAs ran bytes left text
DoesTask Audit r bytes left text = EndsBy AuditEndsAs r bytes left text
DoesTask Migrate r bytes left text = (ran : Result ℕ ScriptFault) × (r ≡ well_of ran) × EndsBy MigrationEndsAs ran bytes left text
