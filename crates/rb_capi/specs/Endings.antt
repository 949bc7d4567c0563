-- How a run from memory to memory ends, and what C finds then.
use Rattle.std.specs.Prelude.{◌≡◌, ◌≢◌, ℕ, ℤ, pos, Bool, true, false, List, [], length, min, nat_le, Option, Some, Result, Ok, Err}
use Rattle.std.specs.Prelude.{if◌then◌else◌}
use Rattle.rb_lines.specs.declared.fault.ScriptFault.{ScriptFault}
use Rattle.rb_lines.specs.declared.fault.ScriptFault.TheVariants.{NoConfig, BadConfig, BadLine, LongLine, Read, Write, OutOfMemory, Gather}
use Rattle.rb_lines.specs.Messages.{status_of}
use Rattle.rb_capi.specs.declared.ending.Ending.{Ending}
use Rattle.rb_capi.specs.Copies.{buffer_with}

-- the number of the line that is wrong, or 0 if none is
abbrev pub number_of_line : ScriptFault → ℕ
number_of_line NoConfig = 0
number_of_line (BadConfig n) = n
number_of_line (BadLine n) = n
number_of_line (LongLine n) = n
number_of_line Read = 0
number_of_line Write = 0
number_of_line OutOfMemory = 0
number_of_line Gather = 0

-- at a fault the status is the program's, and the number that of the line that is wrong
pub record IsEndAtFault (fault : ScriptFault) (e : Ending) : Type 0 where
  pub status : e.status ≡ status_of fault
  pub number : e.number ≡ number_of_line fault

-- a script or a migration that ended well has the status 0, and the number is that of the lines that were written
abbrev pub IsEndingOf : Result ℕ ScriptFault → Ending → Type 0
IsEndingOf (Ok count) e = e ≡ record { status = 0; number = count }
IsEndingOf (Err fault) e = IsEndAtFault fault e

-- an audit has the status 0 if it found an order, and 1 if it found that no world has the histories: that is one line
abbrev pub IsEndOfVerdict : Result Bool ScriptFault → Ending → Type 0
IsEndOfVerdict (Ok true) e = e ≡ record { status = 0; number = 1 }
IsEndOfVerdict (Ok false) e = e ≡ record { status = 1; number = 1 }
IsEndOfVerdict (Err fault) e = IsEndAtFault fault e

-- ---- from memory to memory

-- a read or a write fails for want of memory alone
abbrev pub result_in_memory : {A : Type 0} → Result A ScriptFault → Result A ScriptFault
result_in_memory (Ok x) = Ok x
result_in_memory (Err NoConfig) = Err NoConfig
result_in_memory (Err (BadConfig n)) = Err (BadConfig n)
result_in_memory (Err (BadLine n)) = Err (BadLine n)
result_in_memory (Err (LongLine n)) = Err (LongLine n)
result_in_memory (Err Read) = Err OutOfMemory
result_in_memory (Err Write) = Err OutOfMemory
result_in_memory (Err OutOfMemory) = Err OutOfMemory
result_in_memory (Err Gather) = Err Gather

-- the text that was written, or none if a read or a write failed
abbrev pub text_in_memory : {A : Type 0} → Result A ScriptFault → List ℕ → List ℕ
text_in_memory (Ok x) text = text
text_in_memory (Err NoConfig) text = text
text_in_memory (Err (BadConfig n)) text = text
text_in_memory (Err (BadLine n)) text = text
text_in_memory (Err (LongLine n)) text = text
text_in_memory (Err Read) text = []
text_in_memory (Err Write) text = []
text_in_memory (Err OutOfMemory) text = text
text_in_memory (Err Gather) text = text

-- the run ended well, at a line that is wrong, or for want of memory: no read and no write failed
pub record IsInMemory {A : Type 0} (r : Result A ScriptFault) : Type 0 where
  pub no_read : r ≢ Err Read
  pub no_write : r ≢ Err Write

-- ---- what C finds

-- a run wrote this text and ended so, and C finds the text at the beginning of the buffer, how many bytes were written,
-- the number and the status of the run; if the buffer is too short for the whole text, the status of a failed write,
-- and how many bytes the text has
pub record IsHandedOver (text : List ℕ) (e : Ending) (before after : List ℕ) (written number : ℕ) (status : ℤ) :
    Type 0 where
  pub buffer : after ≡ buffer_with text before
  pub written_is : written ≡ min (length text) (length before)
  pub number_is : number ≡ (if nat_le (length text) (length before) then e.number else length text)
  pub status_is : status ≡ pos (if nat_le (length text) (length before) then e.status else status_of Write)

-- a script, an audit or a migration of these bytes ended as it may, in memory, and C finds what it wrote and how it ended
pub record AnswersRun {A : Type 0} (EndsAs : Result A ScriptFault → List ℕ → Option (List ℕ) → List ℕ → Type 0)
    (EndsIn : Result A ScriptFault → Ending → Type 0) (input before after : List ℕ) (written number : ℕ) (status : ℤ) : Type 0 where
  pub result : Result A ScriptFault
  pub text : List ℕ
  pub ending : Ending
  pub ran : EndsAs result input (Some []) text
  pub in_memory : IsInMemory result
  pub ended : EndsIn result ending
  pub handed : IsHandedOver text ending before after written number status
