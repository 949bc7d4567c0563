-- Which fault a run ends with if it has no next line.
use Rattle.std.specs.Prelude.{ℕ}
use Rattle.rb_lines.specs.declared.fault.ScriptFault.{ScriptFault}
use Rattle.rb_lines.specs.declared.fault.ScriptFault.TheVariants.{LongLine, Read, Write, OutOfMemory}
use Rattle.rb_lines.specs.declared.no_line.NoLine.{NoLine}
use Rattle.rb_lines.specs.declared.no_line.NoLine.TheVariants.{TooLong, OutOfMemory as NoMemory}
use Rattle.rb_lines.specs.declared.no_line.NoLine.TheVariants.{Read as NotRead, Write as NotWritten}

-- why there is no next line, as a fault; the next line has this number
abbrev pub fault_at : NoLine → ℕ → ScriptFault
fault_at TooLong n = LongLine n
fault_at NotRead n = Read
fault_at NotWritten n = Write
fault_at NoMemory n = OutOfMemory
