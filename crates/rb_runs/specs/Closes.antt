-- How closing the books ends: by the files that were read, and what was written.
use Rattle.std.specs.Prelude.{◌≡◌, ◌⊎◌, ◌<◌, ◌+◌, ℕ, Bool, List, [], ◌∷◌, length, IfSome, Option, None, Some, Result, Ok, Err}
use Rattle.rb_auditor.specs.Audits.{Audited}
use Rattle.rb_lines.specs.Writes.{IsFront}
use Rattle.rb_runs.specs.AddedAccounts.{IsAddedFault, added_fault, added_status_of}
use Rattle.rb_runs.specs.Books.{NextBank, ReportsClosing}
use Rattle.rb_runs.specs.JournalFiles.{books_in, journal_status_of, with_files}
use Rattle.rb_runs.specs.declared.books.added_fault.AddedFault.{AddedFault}
use Rattle.rb_runs.specs.declared.books.close_fault.CloseFault.{CloseFault}
use Rattle.rb_runs.specs.declared.books.closing.Closing.{Closing}
use Rattle.rb_runs.specs.declared.books.close_fault.CloseFault.TheVariants.{Added, Unread, Journal, Write, OutOfMemory}
use Rattle.rb_runs.specs.declared.books.journal_fault.JournalFault.TheVariants.{OutOfMemory as NoMemory}

-- the files are all journals of a bank, and the accounts may be added; what closing its books finds is on the line
pub record IsClosing (ask : NextBank) (journals : ℕ) (files : List (List ℕ)) (closed : Bool) (line : List ℕ) : Type 0 where
  pub bank : Audited
  pub all : length files ≡ journals
  pub books : books_in files ≡ Ok (Some bank)
  pub added : added_fault (Some bank.settings) ask.added ≡ None
  pub reports : ReportsClosing ask closed (record { settings = bank.settings; histories = bank.histories }) line

-- the accounts can't be added: this is said before any file is read, or once the first journal was taken
abbrev pub IsAddedAt : NextBank → ℕ → List (List ℕ) → AddedFault → Type 0
IsAddedAt ask journals [] why = IsAddedFault None ask.added why
IsAddedAt ask journals (file ∷ []) why = (bank : Audited) × (with_files journals 0 None (file ∷ []) ≡ Ok (Some bank))
    × IsAddedFault (Some bank.settings) ask.added why
IsAddedAt ask journals (file ∷ other ∷ files) why = ⊥

-- the files that were read are journals without a fault
abbrev pub AreTaken : ℕ → List (List ℕ) → Type 0
AreTaken journals files = (bank : Option Audited) × (with_files journals 0 None files ≡ Ok bank)

-- these files were taken, without a fault; and once there is one, the accounts may be added
pub record HasTaken (c : Closing) (ask : NextBank) (files : List (List ℕ)) : Type 0 where
  pub count : c.taken ≡ length files
  pub said : with_files c.journals 0 None files ≡ Ok c.auditor
  pub added : IfSome c.auditor (λ (bank : Audited). added_fault (Some bank.settings) ask.added ≡ None)

-- the result of closing the books if these files were read, of this number of journals, and this was written
abbrev pub ClosesAs : NextBank → ℕ → List (List ℕ) → Result Bool CloseFault → List ℕ → Type 0
ClosesAs ask journals files (Ok closed) text = IsClosing ask journals files closed text
ClosesAs ask journals files (Err Write) text =
    (closed : Bool) × (line : List ℕ) × IsClosing ask journals files closed line × IsFront text line
ClosesAs ask journals files (Err (Added why)) text = (text ≡ []) × IsAddedAt ask journals files why
ClosesAs ask journals files (Err (Unread site)) text =
    (text ≡ []) × (site ≡ length files) × (site < journals) × AreTaken journals files
ClosesAs ask journals files (Err (Journal site fault)) text = (text ≡ []) × (length files ≡ site + 1)
    × ((fault ≡ NoMemory) ⊎ (with_files journals 0 None files ≡ Err fault))
ClosesAs ask journals files (Err OutOfMemory) text = text ≡ []

-- the exit status of a fault
abbrev pub close_status_of : CloseFault → ℕ
close_status_of (Added why) = added_status_of why
close_status_of (Unread site) = 3
close_status_of (Journal site fault) = journal_status_of fault
close_status_of Write = 3
close_status_of OutOfMemory = 4
