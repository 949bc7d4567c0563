-- The statuses that the program ends with.
use Rattle.std.specs.Prelude.{◌≡◌, ◌⊎◌, ◌++◌, ℕ, Bool, true, false, List, Result, Ok, Err, codes}
use Rattle.std.specs.declared.io.ErrorKind.{ErrorKind as IoErrorKind}
use Rattle.std.specs.declared.io.ErrorKind.TheVariants.{OutOfMemory as IoOutOfMemory}
use Rattle.clap.specs.declared.error.kind.ErrorKind.{ErrorKind}
use Rattle.clap.specs.declared.error.kind.ErrorKind.TheVariants.{DisplayHelp, DisplayVersion, OutOfMemory as NoMemory}
use Rattle.rb_lines.specs.declared.fault.ScriptFault.{ScriptFault}
use Rattle.rb_lines.specs.declared.fault.ScriptFault.TheVariants.{Write}
use Rattle.rb_lines.specs.Messages.{status_of}
use Rattle.rb_run_site.specs.declared.fault.SiteFault.{SiteFault}
use Rattle.rb_run_site.specs.Faults.{site_status_of}
use Rattle.rb_runs.specs.Closes.{close_status_of}
use Rattle.rb_runs.specs.declared.books.close_fault.CloseFault.{CloseFault}
use Rattle.rbbank.specs.declared.closing.ClosingFault.{ClosingFault}
use Rattle.rbbank.specs.declared.closing.ClosingFault.TheVariants.{Same, Books}
use Rattle.rbbank.specs.declared.joined.FilesFault.{FilesFault}
use Rattle.rbbank.specs.declared.done.Done.{Done}
use Rattle.rbbank.specs.declared.done.Done.TheVariants.{Lines, Files, Threads, Site, BadBank, Closed}
use Rattle.rbbank.specs.Files.{files_status_of}
use Rattle.rbbank.specs.Tasks.{well_of}

-- the status if the words can't be read
abbrev pub status_of_unread : IoErrorKind → ℕ
status_of_unread IoOutOfMemory = 4
status_of_unread _ = 2

-- this status of a fault, or 4: its text takes memory, and no argument shows whether there is some. `print_line`, which
-- is given the text, says by it which of the two
abbrev pub IsReportedStatus : ℕ → ℕ → Type 0
IsReportedStatus status n = (n ≡ status) ⊎ (n ≡ 4)

-- the status if the words ask for nothing, by the kind of their error: 4 if memory ran out; for help and the
-- version 0, or that of a write that failed, or 4; 2 for any other
abbrev pub IsEndOfWords : ErrorKind → ℕ → Type 0
IsEndOfWords NoMemory n = n ≡ 4
IsEndOfWords DisplayHelp n = (n ≡ 0) ⊎ IsReportedStatus (status_of Write) n
IsEndOfWords DisplayVersion n = (n ≡ 0) ⊎ IsReportedStatus (status_of Write) n
IsEndOfWords _ n = n ≡ 2

-- a task ends in 0, in 1 if no world has the audited histories, or in its fault's status or 4
abbrev pub IsEndOfTask : Result Bool ScriptFault → ℕ → Type 0
IsEndOfTask (Ok true) n = n ≡ 0
IsEndOfTask (Ok false) n = n ≡ 1
IsEndOfTask (Err fault) n = IsReportedStatus (status_of fault) n

-- a site ends in 0 if its lines were all answered, else in its fault's status or 4
abbrev pub IsEndOfSite : Result ℕ SiteFault → ℕ → Type 0
IsEndOfSite (Ok count) n = n ≡ 0
IsEndOfSite (Err fault) n = IsReportedStatus (site_status_of fault) n

-- closing the books ends in 0 if they are closed, in 1 if a line says why they aren't, else in its fault's status or 4
abbrev pub IsEndOfClosing : Result Bool ClosingFault → ℕ → Type 0
IsEndOfClosing (Ok true) n = n ≡ 0
IsEndOfClosing (Ok false) n = n ≡ 1
IsEndOfClosing (Err (Same same)) n = IsReportedStatus 2 n
IsEndOfClosing (Err (Books fault)) n = IsReportedStatus (close_status_of fault) n

-- a task with the lines of files ends as it does with those of standard input, or in the status of why they are no
-- input
abbrev pub IsEndOfFiles : Result (Result Bool ScriptFault) FilesFault → ℕ → Type 0
IsEndOfFiles (Ok ran) n = IsEndOfTask ran n
IsEndOfFiles (Err fault) n = IsReportedStatus (files_status_of fault) n

-- what was done ends the program by what it came to
abbrev pub IsEndOf : Done → ℕ → Type 0
IsEndOf (Lines ran) n = IsEndOfTask ran n
IsEndOf (Files ran) n = IsEndOfFiles ran.ended n
IsEndOf (Threads ran) n = IsEndOfTask (well_of ran) n
IsEndOf (Site ran) n = IsEndOfSite ran.ended n
IsEndOf BadBank n = IsReportedStatus 2 n
IsEndOf (Closed ran) n = IsEndOfClosing ran.ended n

-- what is said of a name that is none of a bank
abbrev pub bank_message_of : List ℕ → List ℕ
bank_message_of name = codes "rbbank: bank " ++ name ++ codes ": 1 to 64 of A-Z a-z 0-9 . _ : -"

-- 0, 1, or the status of a fault
abbrev pub IsEnd : ℕ → Type 0
IsEnd n = (n ≡ 0) ⊎ ((n ≡ 1) ⊎ (((fault : ScriptFault) × (n ≡ status_of fault)) ⊎ (((fault : SiteFault) × (n ≡ site_status_of fault))
    ⊎ ((fault : CloseFault) × (n ≡ close_status_of fault)))))
