-- How an audit ends, and what was written by then.
use Rattle.std.specs.Prelude.{◌≡◌, ◌⊎◌, ℕ, Bool, true, false, List, [], Option, Some, Result, Ok, Err}
use Rattle.rb_auditor.specs.declared.audit_fault.AuditFault.{AuditFault}
use Rattle.rb_auditor.specs.declared.audit_fault.AuditFault.TheVariants.{OutOfMemory, Stuck, WrongReply}
use Rattle.rb_auditor.specs.Certificates.{Certifies}
use Rattle.rb_auditor.specs.Findings.{IsFirstWrong, IsStuckAt}
use Rattle.rb_site.specs.Histories.{AreOneWorlds}
use Rattle.rb_history.specs.Verdicts.{verdict_line, order_json, stuck_json, wrong_reply_json}
use Rattle.rb_lines.specs.Lines.{lines_of}
use Rattle.rb_lines.specs.Writes.{IsFront}
use Rattle.rb_lines.specs.declared.fault.ScriptFault.{ScriptFault}
use Rattle.rb_lines.specs.declared.fault.ScriptFault.TheVariants.{Write}
use Rattle.rb_runs.specs.Inputs.{Input, input_of}
use Rattle.rb_runs.specs.Silent.{StopsUnwritten}

-- the line has an order that certifies the histories
pub record ReportsOrder (x : Input) (line : List ℕ) : Type 0 where
  pub order : List ℕ
  pub certifies : Certifies x.settings x.histories order
  pub line_is : line ≡ verdict_line (order_json order)

-- the line has the first entry that its site doesn't record
pub record ReportsWrongReply (x : Input) (line : List ℕ) : Type 0 where
  pub site : ℕ
  pub event : ℕ
  pub first : IsFirstWrong x.settings x.histories site event
  pub line_is : line ≡ verdict_line (wrong_reply_json site event)

-- the line has a cut that no world passes
pub record ReportsStuck (x : Input) (line : List ℕ) : Type 0 where
  pub next : List ℕ
  pub stuck : IsStuckAt x.settings x.histories next
  pub line_is : line ≡ verdict_line (stuck_json next)

-- the line is that of the fault; out of memory has none
abbrev pub IsFaultLine : AuditFault → List ℕ → Type 0
IsFaultLine (WrongReply site event) line = line ≡ verdict_line (wrong_reply_json site event)
IsFaultLine (Stuck next) line = line ≡ verdict_line (stuck_json next.items)
IsFaultLine OutOfMemory line = ⊥

-- the line that an audit of these histories answers, and whether it has an order: where it has none, no world has the
-- histories
abbrev pub ReportsVerdict : Bool → Input → List ℕ → Type 0
ReportsVerdict true x line = ReportsOrder x line
ReportsVerdict false x line = (¬ AreOneWorlds x.settings x.histories) × (ReportsWrongReply x line ⊎ ReportsStuck x line)

-- the result of an audit of this input that left the second part of it and wrote the text
abbrev pub AuditEndsAs : Result Bool ScriptFault → List ℕ → Option (List ℕ) → List ℕ → Type 0
AuditEndsAs (Ok found) input left text = (x : Input) × (input_of (lines_of input) ≡ Ok x)
    × ReportsVerdict found x text × (left ≡ Some [])
AuditEndsAs (Err Write) input left text = (x : Input) × (found : Bool) × (line : List ℕ) × (input_of (lines_of input) ≡ Ok x)
    × ReportsVerdict found x line × IsFront text line
AuditEndsAs (Err f) input left text = StopsUnwritten input_of f input left text
