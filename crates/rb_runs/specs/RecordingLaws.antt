-- An audit accepts the text of a script's histories.
use Rattle.std.specs.Prelude.{◌≡◌, ℕ, Bool, true, List, Option, Result, Ok, Err}
use Rattle.rb_site.specs.Histories.{AreOneWorlds}
use Rattle.rb_lines.specs.Lines.{lines_of}
use Rattle.rb_lines.specs.declared.fault.ScriptFault.{ScriptFault}
use Rattle.rb_lines.specs.declared.fault.ScriptFault.TheVariants.{Read, Write, OutOfMemory}
use Rattle.rb_runs.specs.Audit.{AuditEndsAs}
use Rattle.rb_runs.specs.InputLaws.{HasShortLines}
use Rattle.rb_runs.specs.Inputs.{Input, input_of}
use Rattle.rb_runs.specs.Recording.{recording_of}
use Rattle.rb_runs.specs.Texts.{text_of}

-- an audit with this result found an order, or was cut off: a read or a write failed, or memory ran out
abbrev pub IsNoRefusal : Result Bool ScriptFault → Type 0
IsNoRefusal (Ok found) = found ≡ true
IsNoRefusal (Err Read) = Unit {0}
IsNoRefusal (Err Write) = Unit {0}
IsNoRefusal (Err OutOfMemory) = Unit {0}
IsNoRefusal (Err _) = ⊥

-- an audit takes the text as this input, and each audit of it that isn't cut off finds an order
pub record IsAccepted (x : Input) (text : List ℕ) : Type 0 where
  pub taken : input_of (lines_of text) ≡ Ok x
  pub accepted : (r : Result Bool ScriptFault) (left : Option (List ℕ)) (line : List ℕ) → AuditEndsAs r text left line
      → IsNoRefusal r

-- whatever the script in the bytes: its histories are one world's, and an audit accepts their text, unless a line of
-- that is too long
abbrev pub HistoriesAreAccepted : Type 0
HistoriesAreAccepted = (input : List ℕ) (x : Input) → recording_of (lines_of input) ≡ Ok x
    → AreOneWorlds x.settings x.histories
    × (HasShortLines (text_of x.settings x.histories) → IsAccepted x (text_of x.settings x.histories))
