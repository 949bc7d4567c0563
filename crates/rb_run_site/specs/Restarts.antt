-- Runs of a site, each over the file that a crash of the one before left.
use Rattle.std.specs.Prelude.{◌≡◌, ℕ, Bool, List, ◌++◌, Option, Some}
use Rattle.rb_history.specs.Configurations.{config_on}
use Rattle.rb_journal.specs.Lines.{recovered}
use Rattle.rb_journal.specs.Turns.{AreTurns, Turn, state_after}
use Rattle.rb_node.specs.Asked.{SeenAsked}
use Rattle.rb_run_site.specs.Journals.{AnswersEither}
use Rattle.rb_run_site.specs.Openings.{EndsOpening}
use Rattle.rb_run_site.specs.Runs.{HasBegun, HasRun}
use Rattle.rb_run_site.specs.Starts.{Starts}
use Rattle.rb_run_site.specs.Steps.{AreSteps}
use Rattle.rb_run_site.specs.declared.fault.SiteFault.{SiteFault}
use Rattle.rb_run_site.specs.declared.fault.SiteFault.TheVariants.{AnotherJournal, BadEntry, Damaged, Sealed, WrongReply}

-- site `me` ran and crashed, any number of times, with one name of its bank: the first run started with this site,
-- these are the turns of all runs whose entries are in the file that the last crash left. A run that changed nothing
-- left the file that it found. Each run chose by itself whether it records all events or those that change the site
pub data HasRestarted (me : ℕ) (bank : List ℕ) : SeenAsked → List (Turn SeenAsked) → List ℕ → Type 0 where
  -- one run
  Once : {all : Bool} {most : ℕ} {input : Option (List ℕ)} {lines : List (List ℕ)} {output c d : List ℕ}
      → (run : HasRun (record { all = all; me = me; bank = bank; most = most; input = input }) lines output c d)
      → HasRestarted me bank run.start run.answered.turns c
  -- one run more, over the file that the crash before it left
  Again : {all : Bool} {start : SeenAsked} {turns : List (Turn SeenAsked)} {file : List ℕ} {most : ℕ}
      {input : Option (List ℕ)} {output c d : List ℕ} → HasRestarted me bank start turns file
      → (run : HasRun (record { all = all; me = me; bank = bank; most = most; input = input }) (recovered file) output c d)
      → HasRestarted me bank start (turns ++ run.answered.turns) c

-- the next run, over the file that the last crash left, starts with the very site that all these turns led to: of the
-- same configuration, and with the same entries
abbrev pub RestartsGoOn : Type 0
RestartsGoOn = (me : ℕ) (bank : List ℕ) (start : SeenAsked) (turns : List (Turn SeenAsked)) (file : List ℕ)
    → HasRestarted me bank start turns file → (input : Option (List ℕ)) (x : SeenAsked) → Starts me bank input (recovered file) x
    → x ≡ state_after start turns

-- the turns of all runs are those of one site from its start on, each in the state that the one before it left, as if
-- nothing had crashed; and they are steps of one site with a disk, of whose events the file is the journal
abbrev pub RestartedRunsAreOne : Type 0
RestartedRunsAreOne = (me : ℕ) (bank : List ℕ) (start : SeenAsked) (turns : List (Turn SeenAsked)) (file : List ℕ)
    → HasRestarted me bank start turns file → AreTurns AnswersEither start turns × AreSteps start turns file

-- the fault is one of the file: of its lines, or of what is after them
abbrev pub IsFileFault : SiteFault → Type 0
IsFileFault AnotherJournal = Unit {0}
IsFileFault (BadEntry n) = Unit {0}
IsFileFault (WrongReply n) = Unit {0}
IsFileFault (Damaged n) = Unit {0}
IsFileFault Sealed = Unit {0}
IsFileFault _ = ⊥

-- the file that the last crash left is never at fault, so it isn't sealed, for a run of the same number and bank with
-- this configuration
abbrev pub RestartsAreTaken : Type 0
RestartsAreTaken = (me : ℕ) (bank : List ℕ) (start : SeenAsked) (turns : List (Turn SeenAsked)) (file : List ℕ)
    → HasRestarted me bank start turns file → (config : List ℕ) (number : ℕ) (fault : SiteFault)
    → config_on config ≡ Some start.settings → IsFileFault fault → ¬ EndsOpening me bank file fault number config

-- nor is the file that a crash left of a journal that was still new
abbrev pub NewJournalsAreTaken : Type 0
NewJournalsAreTaken = (me : ℕ) (bank : List ℕ) (input : Option (List ℕ)) (lines : List (List ℕ)) (output c d : List ℕ)
    → (run : HasBegun me bank input lines output c d) → (config : List ℕ) (number : ℕ) (fault : SiteFault)
    → config_on config ≡ Some run.start.settings → IsFileFault fault → ¬ EndsOpening me bank c fault number config
