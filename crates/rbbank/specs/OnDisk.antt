-- A run of a site over a file of the operating system.
use Rattle.std.specs.Prelude.{◌≡◌, ◌≢◌, ◌⊎◌, ◌<◌, ◌-◌, ◌^◌, ◌++◌, ℕ, Bool, true, false, List, [], ◌∷◌, length, codes, string_bytes}
use Rattle.std.specs.Prelude.{Option, Some, None, Result, Err}
use Rattle.std.specs.Borrow.{Bor}
use Rattle.std.specs.IoError.{error_kind}
use Rattle.std.specs.declared.io.ErrorKind.{ErrorKind}
use Rattle.std.specs.declared.io.ErrorKind.TheVariants.{WouldBlock, OutOfMemory as NoMemory}
use Rattle.rb_journal.specs.Calls.{content_of, faults_of, leaves, left_since, output_of}
use Rattle.rb_journal.specs.Disk.{IsAskedFor, disk_log}
use Rattle.rb_journal.specs.Host.{LeavesOnly}
use Rattle.rb_journal.specs.Lines.{recovered}
use Rattle.rb_journal.specs.Planned.{opened_event}
use Rattle.rb_journal.specs.declared.disk.Disk.{Disk}
use Rattle.rb_journal.specs.declared.open_error.OpenError.{OpenError}
use Rattle.rb_journal.specs.declared.open_error.OpenError.TheVariants.{NoFile, NotEmpty, IsErrors, Failed}
use Rattle.rb_run_site.specs.Ends.{AnswersBehind, IsAtRest, IsFullBehind, RunsTo}
use Rattle.rb_run_site.specs.Faults.{site_message_of}
use Rattle.rb_run_site.specs.Openings.{IsOpeningCause}
use Rattle.rb_run_site.specs.Runs.{IsSiteRun, SiteRun}
use Rattle.rb_run_site.specs.Seals.{HasSealed, IsSealCause, IsSealRun, SealsTo}
use Rattle.rb_run_site.specs.Steps.{IsRunOfSteps}
use Rattle.rb_cli.specs.declared.recorded.Record.{Record}
use Rattle.rb_cli.specs.declared.recorded.Record.TheVariants.{Changes, All}
use Rattle.rb_run_site.specs.declared.fault.SiteFault.{SiteFault}
use Rattle.rb_run_site.specs.declared.fault.SiteFault.TheVariants.{NoJournal, JournalThere, InUse, Journal, OutOfMemory, Write}

-- how many last entries have what they sent put out again: if it isn't said, all that a history can have
abbrev pub most_of : Option ℕ → ℕ
most_of (Some n) = n
most_of None = 2 ^ 64 - 1

-- the bytes of the bank's name, none if it has no name
abbrev pub bank_name_of : Option (Bor (List ℕ)) → List ℕ
bank_name_of (Some name) = name.now
bank_name_of None = []

-- all events are recorded, and not only those that change the site
abbrev pub records_all : Record → Bool
records_all Changes = false
records_all All = true

-- the run that the words ask for
abbrev pub run_asked : ℕ → Option ℕ → Record → Option (Bor (List ℕ)) → Option (List ℕ) → SiteRun
run_asked me resend recorded bank input =
    record { all = records_all recorded; me = me; bank = bank_name_of bank; most = most_of resend; input = input }

-- the fault of a file that isn't opened, by the kind of the system's error
abbrev pub fault_of_system : ErrorKind → SiteFault
fault_of_system WouldBlock = InUse
fault_of_system NoMemory = OutOfMemory
fault_of_system _ = Journal

-- and by why it isn't
abbrev pub fault_of_open : OpenError → SiteFault
fault_of_open NoFile = NoJournal
fault_of_open NotEmpty = JournalThere
fault_of_open IsErrors = Journal
fault_of_open (Failed error) = fault_of_system (error_kind error)

-- a run that never began, since its file wasn't opened: it ended in the fault of this error, which says that there is
-- no file only if no new one was asked for, and that there is one only if a new one was
pub record IsUnopened (is_new : Bool) (ended : Result ℕ SiteFault) : Type 0 where
  pub error : OpenError
  pub asked : IsAskedFor is_new error
  pub fault : ended ≡ Err (fault_of_open error)

module _ {R P : Type 0} where
  -- the file that the disk has
  abbrev pub file_of : Disk R P → List ℕ
  file_of disk = content_of (disk_log disk)

  -- how many calls were made of it
  abbrev pub moment_of : Disk R P → ℕ
  moment_of disk = length (disk_log disk)

  -- what a crash may have left of it since a moment
  abbrev pub crash_left_of : Disk R P → ℕ → List ℕ → List ℕ → Type 0
  crash_left_of disk = left_since (disk_log disk)

  -- the file of this name is just opened: it was read, and no call was made of it but that, so nothing of it was written,
  -- and it isn't known what of it is on the disk; a new one has nothing
  pub record IsOpened (name : List ℕ) (is_new : Bool) (disk : Disk R P) : Type 0 where
    pub path : string_bytes disk.path ≡ name
    pub new : is_new ≡ true → file_of disk ≡ []
    pub untouched : disk_log disk ≡ opened_event (file_of disk) ∷ []

  -- a site ran so over the file of this name: it answered the lines after the configuration, or stopped in the opening,
  -- as the promises of a site's run have it
  pub record HasRunOn (run : SiteRun) (name : List ℕ) (is_new : Bool) (left : Option (List ℕ)) (disk : Disk R P)
      (ended : Result ℕ SiteFault) : Type 0 where
    pub start : Disk R P
    pub opened : IsOpened name is_new start
    pub ended_as : RunsTo
        (λ end. AnswersBehind run left (record { file = file_of start; output = [] }) (recovered (file_of disk))
        (output_of (disk_log disk)) end
        × IsAtRest (file_of disk) (leaves (disk_log disk)))
        (λ fault. (disk ≡ start) × IsOpeningCause run.me run.bank run.input left (file_of start) fault) ended
    pub any_moment : LeavesOnly moment_of crash_left_of start disk (IsSiteRun run (record { file = file_of start; output = [] }))
    pub steps : LeavesOnly moment_of crash_left_of start disk (IsRunOfSteps run (record { file = file_of start; output = [] }))
    pub write : ended ≡ Err Write → faults_of (disk_log start) < faults_of (disk_log disk)
    pub journal : ended ≡ Err Journal → (faults_of (disk_log start) < faults_of (disk_log disk))
        ⊎ IsFullBehind run (recovered (file_of start))

  -- the file wasn't opened, or there was no memory for the bank's name, and nothing was read; or the site ran over it
  abbrev pub IsRunOn : SiteRun → List ℕ → Bool → Option (List ℕ) → Option (Disk R P) → Result ℕ SiteFault → Type 0
  IsRunOn run name is_new left None ended =
      (left ≡ run.input) × (IsUnopened is_new ended ⊎ ((ended ≡ Err OutOfMemory) × (run.bank ≢ [])))
  IsRunOn run name is_new left (Some disk) ended = HasRunOn run name is_new left disk ended

  -- the file of this name was sealed as site `me`'s journal, or it stopped, as the promises of a seal have it
  pub record HasSealedOn (me : ℕ) (name : List ℕ) (disk : Disk R P) (ended : Result ℕ SiteFault) : Type 0 where
    pub start : Disk R P
    pub opened : IsOpened name false start
    pub ended_as : SealsTo (HasSealed me (file_of start) (file_of disk) (leaves (disk_log disk)))
        (λ fault. (disk ≡ start) × IsSealCause me (file_of start) fault) ended
    pub any_moment : LeavesOnly moment_of crash_left_of start disk (IsSealRun (file_of start) [])
    pub output : output_of (disk_log disk) ≡ []
    pub journal : ended ≡ Err Journal → faults_of (disk_log start) < faults_of (disk_log disk)

  -- the file wasn't opened; or it was sealed
  abbrev pub IsSealOn : ℕ → List ℕ → Option (Disk R P) → Result ℕ SiteFault → Type 0
  IsSealOn me name None ended = IsUnopened false ended
  IsSealOn me name (Some disk) ended = HasSealedOn me name disk ended

-- what is said of a journal that failed: it begins with the fault and the file's name, and the system's reason is
-- after them
abbrev pub IsJournalMessage : List ℕ → List ℕ → Type 0
IsJournalMessage name text =
    (reason : List ℕ) × (text ≡ site_message_of Journal ++ codes ": " ++ name ++ codes ": " ++ reason)
