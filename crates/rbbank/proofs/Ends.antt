-- Each status is one that the program may end with.
use Rattle.std.proofs.Common.{◌≡◌, ◌⊎◌, ℕ, Bool, true, false, Result, Ok, Err, inl, inr}
use Rattle.std.specs.declared.io.ErrorKind.{ErrorKind as IoErrorKind}
use Rattle.std.specs.declared.io.ErrorKind.TheVariants.{OutOfMemory as IoOutOfMemory}
use Rattle.clap.specs.declared.error.kind.ErrorKind.{ErrorKind}
use Rattle.clap.specs.declared.error.kind.ErrorKind.TheVariants.{DisplayHelp, DisplayVersion, OutOfMemory as NoMemory}
use Rattle.rb_lines.specs.declared.fault.ScriptFault.{ScriptFault}
use Rattle.rb_lines.specs.declared.fault.ScriptFault.TheVariants.{NoConfig, OutOfMemory, Read, Write}
use Rattle.rb_lines.specs.Messages.{status_of}
use Rattle.rb_run_site.specs.declared.fault.SiteFault.{SiteFault}
use Rattle.rbbank.specs.declared.closing.ClosingFault.{ClosingFault}
use Rattle.rbbank.specs.declared.closing.ClosingFault.TheVariants.{Same as SameJournal, Books}
use Rattle.rbbank.specs.declared.done.Done.{Done}
use Rattle.rbbank.specs.declared.done.Done.TheVariants.{Lines, Files, Threads, Site, BadBank, Closed}
use Rattle.rbbank.specs.declared.joined.FilesFault.{FilesFault}
use Rattle.rbbank.specs.declared.joined.FilesFault.TheVariants.{Unread, AnotherBank, Same, OutOfMemory as NoFilesMemory}
use Rattle.rbbank.specs.Statuses.{IsEnd, IsEndOf, IsEndOfClosing, IsEndOfFiles, IsEndOfSite, IsEndOfTask}
use Rattle.rbbank.specs.Statuses.{IsEndOfWords, IsReportedStatus, status_of_unread}
use Rattle.rbbank.specs.Tasks.{well_of}

-- memory ran out
pub no_memory : (n : ℕ) → n ≡ 4 → IsEnd n
no_memory n e = inr (inr (inl (OutOfMemory, e)))

fault_end : (n : ℕ) (fault : ScriptFault) → IsReportedStatus (status_of fault) n → IsEnd n
fault_end n fault (inl e) = inr (inr (inl (fault, e)))
fault_end n fault (inr e) = no_memory n e

task_end : (n : ℕ) (ran : Result Bool ScriptFault) → IsEndOfTask ran n → IsEnd n
task_end n (Ok true) e = inl e
task_end n (Ok false) e = inr (inl e)
task_end n (Err fault) e = fault_end n fault e

site_end : (n : ℕ) (ran : Result ℕ SiteFault) → IsEndOfSite ran n → IsEnd n
site_end n (Ok count) e = inl e
site_end n (Err fault) (inl e) = inr (inr (inr (inl (fault, e))))
site_end n (Err fault) (inr e) = no_memory n e

closing_end : (n : ℕ) (ran : Result Bool ClosingFault) → IsEndOfClosing ran n → IsEnd n
closing_end n (Ok true) e = inl e
closing_end n (Ok false) e = inr (inl e)
closing_end n (Err (SameJournal same)) e = fault_end n NoConfig e
closing_end n (Err (Books fault)) (inl e) = inr (inr (inr (inr (fault, e))))
closing_end n (Err (Books fault)) (inr e) = no_memory n e

files_end : (n : ℕ) (ran : Result (Result Bool ScriptFault) FilesFault) → IsEndOfFiles ran n → IsEnd n
files_end n (Ok ran) e = task_end n ran e
files_end n (Err (Unread file)) e = fault_end n Read e
files_end n (Err (AnotherBank file)) e = fault_end n NoConfig e
files_end n (Err (Same same)) e = fault_end n NoConfig e
files_end n (Err NoFilesMemory) e = fault_end n OutOfMemory e

-- whatever was done
pub any_end : (n : ℕ) (done : Done) → IsEndOf done n → IsEnd n
any_end n (Lines ran) e = task_end n ran e
any_end n (Files ran) e = files_end n ran.ended e
any_end n (Threads ran) e = task_end n (well_of ran) e
any_end n (Site ran) e = site_end n ran.ended e
any_end n BadBank e = fault_end n NoConfig e
any_end n (Closed ran) e = closing_end n ran.ended e

shown_end : (n : ℕ) → (n ≡ 0) ⊎ IsReportedStatus (status_of Write) n → IsEnd n
shown_end n (inl e) = inl e
shown_end n (inr e) = fault_end n Write e

-- the words ask for nothing
pub words_end : (n : ℕ) (kind : ErrorKind) → IsEndOfWords kind n → IsEnd n
words_end n NoMemory e = no_memory n e
words_end n DisplayHelp e = shown_end n e
words_end n DisplayVersion e = shown_end n e
words_end n kind e = inr (inr (inl (NoConfig, e)))

-- the words can't be read
pub unread_end : (n : ℕ) (kind : IoErrorKind) → n ≡ status_of_unread kind → IsEnd n
unread_end n IoOutOfMemory e = no_memory n e
unread_end n kind e = inr (inr (inl (NoConfig, e)))
