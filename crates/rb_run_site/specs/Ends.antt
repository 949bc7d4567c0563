-- How a run of a site ends.
use Rattle.std.specs.Prelude.{◌≡◌, ◌⊎◌, ℕ, Bool, List, ◌++◌, Option, IfSome, Result, Ok, Err}
use Rattle.rb_journal.specs.Host.{Only}
use Rattle.rb_journal.specs.Lines.{at_rest, recovered}
use Rattle.rb_journal.specs.Ends.{EndsAs, IsFull, IsPutOut}
use Rattle.rb_journal.specs.Turns.{Turn}
use Rattle.rb_journal.specs.declared.fault.ServeFault.{ServeFault}
use Rattle.rb_journal.specs.declared.fault.ServeFault.TheVariants.{Read as NotRead}
use Rattle.rb_node.specs.Asked.{SeenAsked, without_ids}
use Rattle.rb_node.specs.Resends.{sent_again}
use Rattle.rb_run_site.specs.Journals.{SiteAnswers, journal_of}
use Rattle.rb_run_site.specs.Runs.{AreBytesBehind, Found, SiteRun}
use Rattle.rb_run_site.specs.Starts.{Starts}
use Rattle.rb_run_site.specs.declared.fault.SiteFault.{SiteFault}
use Rattle.rb_run_site.specs.declared.fault.SiteFault.TheVariants.{NoConfig, BadConfig, NoSite, AnotherJournal, BadEntry, WrongReply}
use Rattle.rb_run_site.specs.declared.fault.SiteFault.TheVariants.{Damaged, NoJournal, JournalThere, InUse, Sealed}
use Rattle.rb_run_site.specs.declared.fault.SiteFault.TheVariants.{LongLine, Read, Write, Journal, OutOfMemory}

-- these were the turns of a site, which records all events or those that change it: their entries are in the journal
-- and all their text was put out, after what was sent again; the run over these bytes, whose first line has this
-- number, ended so
pub record AnswersAll (all : Bool) (x : SeenAsked) (sends : List ℕ) (number : ℕ) (bytes left : Option (List ℕ))
    (output : List ℕ)
    (now : List (List ℕ)) (said : List ℕ) (ended : Result ℕ ServeFault) : Type 0 where
  pub turns : List (Turn SeenAsked)
  pub put : IsPutOut (SiteAnswers all) x (journal_of x) (output ++ sends) turns now said
  pub ends : EndsAs number turns bytes left ended

-- the site that the input's first line and the journal's lines say answered what is after, and the run over that ended
-- so
pub record AnswersBehind (run : SiteRun) (left : Option (List ℕ)) (old : Found) (now : List (List ℕ)) (said : List ℕ)
    (ended : Result ℕ ServeFault) : Type 0 where
  pub start : SeenAsked
  pub starts : Starts run.me run.bank run.input (recovered old.file) start
  pub number : ℕ
  pub behind : Option (List ℕ)
  pub behind_is : IfSome run.input (AreBytesBehind starts.config number behind)
  pub answered : AnswersAll run.all start (sent_again start.bank run.most (without_ids start)) number behind left old.output now said
      ended

-- the journal of the site that the input's first line and the journal's lines say, with what the first of the lines
-- after add, is full
pub record IsFullBehind (run : SiteRun) (lines : List (List ℕ)) : Type 0 where
  pub start : SeenAsked
  pub starts : Starts run.me run.bank run.input lines start
  pub number : ℕ
  pub behind : Option (List ℕ)
  pub behind_is : IfSome run.input (AreBytesBehind starts.config number behind)
  pub full : IsFull (SiteAnswers run.all) number behind start (journal_of start)

-- the file is whole lines and a closed gate, all of it on the disk
abbrev pub IsAtRest : List ℕ → (List ℕ → Type 0) → Type 0
IsAtRest file may_leave = (file ≡ at_rest (recovered file)) × Only file may_leave

-- how a run ends: it answered all lines, or those before a read that failed; or it stopped in the opening, for this
-- fault. A failed read comes in either. Of a failed write, a failed journal and of running out of memory nothing is
-- said here
abbrev pub RunsTo : (Result ℕ ServeFault → Type 0) → (SiteFault → Type 0) → Result ℕ SiteFault → Type 0
RunsTo answers stops (Ok n) = answers (Ok n)
RunsTo answers stops (Err (LongLine k)) = stops (LongLine k)
RunsTo answers stops (Err Read) = answers (Err NotRead) ⊎ stops Read
RunsTo answers stops (Err NoConfig) = stops NoConfig
RunsTo answers stops (Err (BadConfig k)) = stops (BadConfig k)
RunsTo answers stops (Err NoSite) = stops NoSite
RunsTo answers stops (Err AnotherJournal) = stops AnotherJournal
RunsTo answers stops (Err (BadEntry k)) = stops (BadEntry k)
RunsTo answers stops (Err (WrongReply k)) = stops (WrongReply k)
RunsTo answers stops (Err (Damaged k)) = stops (Damaged k)
RunsTo answers stops (Err Sealed) = stops Sealed
RunsTo answers stops (Err Write) = Unit {0}
RunsTo answers stops (Err Journal) = Unit {0}
RunsTo answers stops (Err OutOfMemory) = Unit {0}
RunsTo answers stops (Err NoJournal) = ⊥
RunsTo answers stops (Err JournalThere) = ⊥
RunsTo answers stops (Err InUse) = ⊥
