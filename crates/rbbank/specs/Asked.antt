-- The requests of the words, and what is done for them.
use Rattle.std.specs.Prelude.{◌≡◌, ◌≤◌, ℕ, List, [], Option, Some, IfSome, false, true, length, map}
use Rattle.rb_cli.specs.declared.words.Words.{Words}
use Rattle.rb_cli.specs.declared.words.Words.TheVariants.{Script, Histories, Audit, Migrate, Threads, Site, Seal, Close}
use Rattle.rb_history.specs.Ids.{is_id}
use Rattle.rb_journal.specs.Calls.{files_read}
use Rattle.rb_run_threads.specs.Runs.{ThreadsEndAs}
use Rattle.rbbank.specs.declared.done.Done.{Done}
use Rattle.rbbank.specs.declared.done.Done.TheVariants.{Lines, Files, BadBank, Closed}
use Rattle.rbbank.specs.declared.done.Done.TheVariants.{Threads as TellersRan, Site as SiteRan}
use Rattle.rbbank.specs.Files.{ClosesFilesAs, FilesEndAs}
use Rattle.rbbank.specs.OnDisk.{IsRunOn, IsSealOn, run_asked}
use Rattle.rbbank.specs.Tasks.{DoesTask}
use Rattle.rbbank.specs.declared.task.Task.{Task}
use Rattle.rbbank.specs.declared.task.Task.TheVariants.{Script as ToAnswer, Histories as ToRecord, Audit as ToAudit, Migrate as ToMigrate}

-- the task was done with the lines of this number of files, or of the reader if there is none
abbrev pub DoesLines : Task → ℕ → Option (List ℕ) → Option (List ℕ) → Done → List ℕ → Type 0
DoesLines task count bytes left (Lines ran) text = (count ≡ 0) × DoesTask task ran bytes left text
DoesLines task count bytes left (Files ran) text =
    (1 ≤ count) × FilesEndAs task count ran.ids.items (files_read ran.read.events) ran.ended text × (left ≡ bytes)
DoesLines task count bytes left _ text = ⊥

-- what was asked for was done, by the definition of its own run, if this text was written: a task with the lines of the
-- reader or of files, a run of tellers, a site over the file that the words name, the seal of that file, or the books
-- were closed. Only the first and a site read from the reader. A site whose bank's name isn't an id doesn't run
abbrev pub DoesAsAsked : Words → Option (List ℕ) → Option (List ℕ) → Done → List ℕ → Type 0
DoesAsAsked (Script files) bytes left done text = DoesLines ToAnswer (length files.items) bytes left done text
DoesAsAsked (Histories files) bytes left done text = DoesLines ToRecord (length files.items) bytes left done text
DoesAsAsked (Audit files) bytes left done text = DoesLines ToAudit (length files.items) bytes left done text
DoesAsAsked (Migrate files) bytes left done text = DoesLines ToMigrate (length files.items) bytes left done text
DoesAsAsked (Threads sites tellers seed) bytes left (TellersRan r) text = ThreadsEndAs r sites tellers seed text × (left ≡ bytes)
DoesAsAsked (Site me journal is_new resend recorded bank) bytes left (SiteRan ran) text =
    IfSome bank (λ name. is_id name.now ≡ true)
    × IsRunOn (run_asked me resend recorded bank bytes) journal.now is_new left ran.disk ran.ended × (text ≡ [])
DoesAsAsked (Site me journal is_new resend recorded (Some name)) bytes left BadBank text =
    (is_id name.now ≡ false) × (text ≡ []) × (left ≡ bytes)
DoesAsAsked (Seal me journal) bytes left (SiteRan ran) text = IsSealOn me journal.now ran.disk ran.ended × (text ≡ []) × (left ≡ bytes)
DoesAsAsked (Close sites accounts journals) bytes left (Closed ran) text =
    ClosesFilesAs (record { sites = sites; added = map (λ name. name.now) accounts.items }) (length journals.items)
    ran.ids.items (files_read ran.read.events) ran.ended text × (left ≡ bytes)
DoesAsAsked _ bytes left _ text = ⊥
