-- The message of a failed run on standard error, and its status.
use Rattle.std.specs.Prelude.{ℕ, List, ◌++◌, codes, decimal}
use Rattle.rb_lines.specs.declared.fault.ScriptFault.{ScriptFault}
use Rattle.rb_lines.specs.declared.fault.ScriptFault.TheVariants.{NoConfig, BadConfig, BadLine, LongLine, Read, Write, OutOfMemory, Gather}

-- why a run failed, in words
abbrev pub reason_of : ScriptFault → List ℕ
reason_of NoConfig = codes "no configuration"
reason_of (BadConfig n) = codes "line " ++ decimal n ++ codes ": bad configuration"
reason_of (BadLine n) = codes "line " ++ decimal n ++ codes ": bad line"
reason_of (LongLine n) = codes "line " ++ decimal n ++ codes ": line too long"
reason_of Read = codes "read failed"
reason_of Write = codes "write failed"
reason_of OutOfMemory = codes "out of memory"
reason_of Gather = codes "gather failed"

abbrev pub message_of : ScriptFault → List ℕ
message_of fault = codes "rbbank: " ++ reason_of fault

abbrev pub status_of : ScriptFault → ℕ
status_of NoConfig = 2
status_of (BadConfig n) = 2
status_of (BadLine n) = 2
status_of (LongLine n) = 2
status_of Read = 3
status_of Write = 3
status_of OutOfMemory = 4
status_of Gather = 5
