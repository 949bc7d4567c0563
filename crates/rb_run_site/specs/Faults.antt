-- The message on standard error of a run of a site that stops, and its status.
use Rattle.std.specs.Prelude.{ℕ, List, ◌++◌, codes, decimal}
use Rattle.rb_journal.specs.declared.fault.ServeFault.{ServeFault}
use Rattle.rb_journal.specs.declared.fault.ServeFault.TheVariants.{Read as NotRead}
use Rattle.rb_journal.specs.declared.fault.ServeFault.TheVariants.{Write as NotWritten, Journal as DiskFailed, OutOfMemory as NoMemory}
use Rattle.rb_run_site.specs.declared.fault.SiteFault.{SiteFault}
use Rattle.rb_run_site.specs.declared.fault.SiteFault.TheVariants.{NoConfig, BadConfig, NoSite, AnotherJournal, BadEntry, WrongReply}
use Rattle.rb_run_site.specs.declared.fault.SiteFault.TheVariants.{Damaged, NoJournal, JournalThere, InUse, Sealed}
use Rattle.rb_run_site.specs.declared.fault.SiteFault.TheVariants.{LongLine, Read, Write, Journal, OutOfMemory}

-- a fault of a run over lines is one of a site's
abbrev pub fault_of_serve : ServeFault → SiteFault
fault_of_serve NotRead = Read
fault_of_serve NotWritten = Write
fault_of_serve DiskFailed = Journal
fault_of_serve NoMemory = OutOfMemory

-- a fault that is found before the file is changed: of the configuration, of the journal's lines, of a read, or of
-- memory
abbrev pub IsOpeningFault : SiteFault → Type 0
IsOpeningFault NoJournal = ⊥
IsOpeningFault JournalThere = ⊥
IsOpeningFault InUse = ⊥
IsOpeningFault Write = ⊥
IsOpeningFault Journal = ⊥
IsOpeningFault _ = Unit {0}

-- a fault of finding the input's first line, or of memory
abbrev pub IsFirstLineFault : SiteFault → Type 0
IsFirstLineFault NoConfig = Unit {0}
IsFirstLineFault (LongLine n) = Unit {0}
IsFirstLineFault Read = Unit {0}
IsFirstLineFault OutOfMemory = Unit {0}
IsFirstLineFault _ = ⊥

-- why a run of a site stops, in words
abbrev pub site_reason_of : SiteFault → List ℕ
site_reason_of NoConfig = codes "no configuration"
site_reason_of (BadConfig n) = codes "line " ++ decimal n ++ codes ": bad configuration"
site_reason_of NoSite = codes "no such site"
site_reason_of AnotherJournal = codes "another bank's journal"
site_reason_of (BadEntry n) = codes "journal line " ++ decimal n ++ codes ": bad line"
site_reason_of (WrongReply n) = codes "journal line " ++ decimal n ++ codes ": wrong reply"
site_reason_of (Damaged n) = codes "journal line " ++ decimal n ++ codes ": damaged"
site_reason_of NoJournal = codes "no journal"
site_reason_of JournalThere = codes "there is a journal"
site_reason_of InUse = codes "journal is in use"
site_reason_of Sealed = codes "journal is sealed"
site_reason_of (LongLine n) = codes "line " ++ decimal n ++ codes ": line too long"
site_reason_of Read = codes "read failed"
site_reason_of Write = codes "write failed"
site_reason_of Journal = codes "journal failed"
site_reason_of OutOfMemory = codes "out of memory"

abbrev pub site_message_of : SiteFault → List ℕ
site_message_of fault = codes "rbbank: " ++ site_reason_of fault

abbrev pub site_status_of : SiteFault → ℕ
site_status_of NoConfig = 2
site_status_of (BadConfig n) = 2
site_status_of NoSite = 2
site_status_of AnotherJournal = 2
site_status_of (BadEntry n) = 2
site_status_of (WrongReply n) = 2
site_status_of (Damaged n) = 2
site_status_of NoJournal = 2
site_status_of JournalThere = 2
site_status_of InUse = 2
site_status_of Sealed = 2
site_status_of (LongLine n) = 2
site_status_of Read = 3
site_status_of Write = 3
site_status_of Journal = 3
site_status_of OutOfMemory = 4
