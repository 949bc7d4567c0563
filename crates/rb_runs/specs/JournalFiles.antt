-- The files of a closed bank's journals: what they say, site by site, or what is wrong with the first that is wrong.
use Rattle.std.specs.Prelude.{◌≡◌, ◌⊎◌, ℕ, ◌+◌, ◌-◌, ◌==◌, Bool, List, [], ◌∷◌, ◌++◌, codes, decimal, length, take, replicate}
use Rattle.std.specs.Prelude.{Option, None, Some, Result, Ok, Err, nat_eq, option_and_then, if◌then◌else◌}
use Rattle.std.specs.List.{ends_with}
use Rattle.std.specs.Option.{option_map_or}
use Rattle.std.specs.Str.{bytes_eq}
use Rattle.serde_json.specs.Written.{compact_text}
use Rattle.rb_auditor.specs.Audits.{Audited}
use Rattle.rb_history.specs.ConfigLines.{config_json}
use Rattle.rb_history.specs.Configurations.{config_on}
use Rattle.rb_history.specs.Entries.{entry_on}
use Rattle.rb_lines.specs.Lines.{is_long, lines_of}
use Rattle.rb_money.specs.Settings.{Settings}
use Rattle.rb_site.specs.declared.entry.Entry.{Entry}
use Rattle.rb_runs.specs.Inputs.{with_entry}
use Rattle.rb_runs.specs.declared.books.closing.Closing.{Closing}
use Rattle.rb_runs.specs.declared.books.journal_fault.JournalFault.{JournalFault}
use Rattle.rb_runs.specs.declared.books.journal_fault.JournalFault.TheVariants.{NotSealed, AnotherBank, BadLine, AnotherSite, Count}
use Rattle.rb_runs.specs.declared.books.journal_fault.JournalFault.TheVariants.{OutOfMemory}

-- ---- one journal

-- a sealed file ends in a line feed (10) and a TAB (9)
abbrev pub is_sealed : List ℕ → Bool
is_sealed file = ends_with nat_eq file (10 ∷ 9 ∷ [])

-- the lines before the TAB
abbrev pub journal_lines : List ℕ → List (List ℕ)
journal_lines file = lines_of (take (length file - 1) file)

-- the line is the configuration's, as a site writes it
abbrev pub is_head : Settings → List ℕ → Bool
is_head s l = bytes_eq l (compact_text (config_json s))

-- the bank that a journal's first line is of: at first no site has an entry; a later journal is of the same bank
abbrev pub bank_by : Option Audited → List ℕ → Option Audited
bank_by None l = option_and_then (λ s. if is_head s l then Some (record { settings = s; histories = replicate s.sites [] }) else None)
    (config_on l)
bank_by (Some a) l = if is_head a.settings l then Some a else None

-- the entry of this site on line n; a line that is too long is a bad one
abbrev pub entry_of_site : Settings → ℕ → ℕ → List ℕ → Result Entry JournalFault
entry_of_site s site n l = if is_long l then Err (BadLine n)
    else option_map_or (λ (x : ℕ × Entry). if x.0 == site then Ok x.1 else Err (AnotherSite n)) (entry_on s l) (Err (BadLine n))

-- what comes next, if there is no fault
abbrev pub next : {A B : Type 0} → Result A JournalFault → (A → Result B JournalFault) → Result B JournalFault
next (Ok x) more = more x
next (Err f) more = Err f

-- the bank with the entries of these lines, the first of which is line n, at the end of this site's history
abbrev pub with_lines : Settings → ℕ → List (List Entry) → ℕ → List (List ℕ) → Result Audited JournalFault
with_lines s site hs n [] = Ok (record { settings = s; histories = hs })
with_lines s site hs n (l ∷ ls) = next (entry_of_site s site n l) (λ x. with_lines s site (with_entry site x hs) (n + 1) ls)

-- the bank with the journal of this site
abbrev pub with_journal_lines : ℕ → Option Audited → List (List ℕ) → Result Audited JournalFault
with_journal_lines site before [] = Err AnotherBank
with_journal_lines site before (l ∷ ls) =
    option_map_or (λ (a : Audited). with_lines a.settings site a.histories 2 ls) (bank_by before l) (Err AnotherBank)

abbrev pub with_journal : ℕ → Option Audited → List ℕ → Result Audited JournalFault
with_journal site before file = if is_sealed file then with_journal_lines site before (journal_lines file) else Err NotSealed

-- ---- all journals

-- there is a journal for each site
abbrev pub counted : ℕ → Audited → Result Audited JournalFault
counted journals a = if journals == a.settings.sites then Ok a else Err (Count journals a.settings.sites)

-- the bank with the journal of this site, of this number of journals
abbrev pub with_next : ℕ → ℕ → Option Audited → List ℕ → Result Audited JournalFault
with_next journals site before file = next (with_journal site before file) (counted journals)

-- the bank with these files, the first of which is this site's journal
abbrev pub with_files : ℕ → ℕ → Option Audited → List (List ℕ) → Result (Option Audited) JournalFault
with_files journals site before [] = Ok before
with_files journals site before (f ∷ fs) =
    next (with_next journals site before f) (λ a. with_files journals (site + 1) (Some a) fs)

-- what the files of a bank's journals say, in the order of their sites
abbrev pub books_in : List (List ℕ) → Result (Option Audited) JournalFault
books_in files = with_files (length files) 0 None files

-- ---- how far they were taken

-- one file was taken
pub record TakesFile (old new : Closing) (file : List ℕ) : Type 0 where
  pub bank : Audited
  pub is : new.auditor ≡ Some bank
  pub said : with_next old.journals old.taken old.auditor file ≡ Ok bank
  pub journals : new.journals ≡ old.journals
  pub taken : new.taken ≡ old.taken + 1

-- the fault is the file's; nothing is said of running out of memory
abbrev pub EndsAtFile : Closing → List ℕ → JournalFault → Type 0
EndsAtFile c file fault = (fault ≡ OutOfMemory) ⊎ (with_next c.journals c.taken c.auditor file ≡ Err fault)

-- ---- what is said of a fault

-- in words
abbrev pub journal_reason_of : JournalFault → List ℕ
journal_reason_of NotSealed = codes "not sealed"
journal_reason_of AnotherBank = codes "another bank's journal"
journal_reason_of (BadLine n) = codes "line " ++ decimal n ++ codes ": bad line"
journal_reason_of (AnotherSite n) = codes "line " ++ decimal n ++ codes ": another site's entry"
journal_reason_of (Count n m) = decimal n ++ (codes " journals for " ++ (decimal m ++ codes " sites"))
journal_reason_of OutOfMemory = codes "out of memory"

-- the file comes first, if the fault is of one file
abbrev pub journal_message_of : List ℕ → JournalFault → List ℕ
journal_message_of file (Count n m) = codes "rbbank: " ++ journal_reason_of (Count n m)
journal_message_of file OutOfMemory = codes "rbbank: " ++ journal_reason_of OutOfMemory
journal_message_of file fault = codes "rbbank: " ++ (file ++ (codes ": " ++ journal_reason_of fault))

abbrev pub journal_status_of : JournalFault → ℕ
journal_status_of OutOfMemory = 4
journal_status_of _ = 2
