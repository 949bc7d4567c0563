-- Which fault a failed journal is, and the reason that is shown for each fault.
use Rattle.std.specs.Prelude.{List, ℕ, codes}
use Rattle.rb_journal.specs.declared.host.HostError.{HostError}
use Rattle.rb_journal.specs.declared.host.HostError.TheVariants.{Memory, DiskFailed, OutputFailed, Full}
use Rattle.rb_journal.specs.declared.fault.ServeFault.{ServeFault}
use Rattle.rb_journal.specs.declared.fault.ServeFault.TheVariants.{Read, Write, Journal, OutOfMemory}

abbrev pub fault_of_host : HostError → ServeFault
fault_of_host Memory = OutOfMemory
fault_of_host DiskFailed = Journal
fault_of_host OutputFailed = Write
fault_of_host Full = Journal

abbrev pub reason_shown : ServeFault → List ℕ
reason_shown Read = codes "read failed"
reason_shown Write = codes "write failed"
reason_shown Journal = codes "journal failed"
reason_shown OutOfMemory = codes "out of memory"
