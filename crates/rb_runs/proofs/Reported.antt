-- What an audit writes once all lines were taken.
use Rattle.rb_runs.proofs.Words.{ℕ, Bool, List, [], Option, Ok, Err, IfSome, Appends, Appends-trans, IfSome_then, Audited, AppendsFront}
use Rattle.rb_runs.proofs.Words.{ScriptFault, Write, Input, input_of, AuditEndsAs, ReportsVerdict, HasInput, StopsUnwritten}

-- the input that was collected
abbrev pub input_at : Audited → Input
input_at a = record { settings = a.settings; histories = a.histories }

-- an audit that stopped before anything was written
pub stopped_audit : (a b : Option (List ℕ)) (f : ScriptFault) → IfSome a (λ input. StopsUnwritten input_of f input b [])
    → IfSome a (λ input. AuditEndsAs (Err f) input b [])
stopped_audit a b f h = IfSome_then a h (λ input. by f input b)
  where
    by : (f : ScriptFault) (input : List ℕ) (left : Option (List ℕ)) → StopsUnwritten input_of f input left []
        → AuditEndsAs (Err f) input left []
    by Write input left h = absurd h
    by f input left h = h

-- all lines were taken, and the line of the verdict was written
pub reported : (w0 w w' a b : Option (List ℕ)) (s : Audited) (found : Bool) (line : List ℕ) → Appends w0 w [] → Appends w w' line
    → IfSome a (λ input. HasInput input_of (input_at s) input b) → ReportsVerdict found (input_at s) line
    → (text : List ℕ) × Appends w0 w' text × IfSome a (λ input. AuditEndsAs (Ok found) input b text)
reported w0 w w' a b s found line before written has shown =
    (line, Appends-trans w0 w w' [] line before written, IfSome_then a has (λ input h. (input_at s, h.0, shown, h.1)))

-- all lines were taken, and a prefix of the line of the verdict was written
pub part_reported : (w0 w w' a b : Option (List ℕ)) (s : Audited) (found : Bool) (line : List ℕ) → Appends w0 w []
    → AppendsFront w w' line → IfSome a (λ input. HasInput input_of (input_at s) input b) → ReportsVerdict found (input_at s) line
    → (text : List ℕ) × Appends w0 w' text × IfSome a (λ input. AuditEndsAs (Err Write) input b text)
part_reported w0 w w' a b s found line before part has shown = (
  part.0,
  Appends-trans w0 w w' [] part.0 before part.2,
  IfSome_then a has (λ input h. (input_at s, found, line, h.0, shown, part.1)),
)
