-- The site that was opened goes on over what is after the configuration's line.
use Rattle.std.proofs.Common.{inl, inr, ℕ, List, ◌++◌, Option, Some, None, Result, Ok, Err, ap, subst}
use Rattle.std.specs.Prelude.{IfSome}
use Rattle.rb_journal.specs.Lines.{recovered}
use Rattle.rb_lines.specs.Lines.{lines_of}
use Rattle.rb_node.specs.Asked.{SeenAsked}
use Rattle.rb_journal.specs.Ends.{IsFull}
use Rattle.rb_journal.specs.Run.{served_input}
use Rattle.rb_journal.specs.declared.fault.ServeFault.{ServeFault}
use Rattle.rb_run_site.specs.Ends.{AnswersAll, AnswersBehind, IsFullBehind, RunsTo}
use Rattle.rb_run_site.specs.Faults.{IsOpeningFault}
use Rattle.rb_run_site.specs.Journals.{SiteAnswers, journal_of}
use Rattle.rb_run_site.specs.Openings.{OpensSite}
use Rattle.rb_run_site.specs.Runs.{AreBytesBehind, Found, HasAnswered, IsNewOrAnswered, IsSiteRun, SiteRun}
use Rattle.rb_run_site.specs.Starts.{IsBehind, Starts, WaitsBehind}
use Rattle.rb_run_site.specs.declared.fault.SiteFault.{SiteFault}
use Rattle.rb_run_site.specs.declared.fault.SiteFault.TheVariants.{NoJournal, JournalThere, InUse}
use Rattle.rb_run_site.specs.declared.fault.SiteFault.TheVariants.{Read, Write, Journal, OutOfMemory}

-- the bytes after the configuration's line are what waits and what is still to be read
pub behind_known : (input : Option (List ℕ)) (config : List ℕ) (number : ℕ) (pending : List ℕ) (left : Option (List ℕ))
    → IfSome input (WaitsBehind config number pending left) → IfSome input (AreBytesBehind config number (served_input pending left))
behind_known None config number pending left w = tt
behind_known (Some all) config number pending left w =
    (pending ++ w.rest, ap (λ l. served_input pending l) w.left_is, w.behind)

-- so the configuration's line is the input's first
pub first_known : (input : Option (List ℕ)) (config : List ℕ) (number : ℕ) (pending : List ℕ) (left : Option (List ℕ))
    → IfSome input (WaitsBehind config number pending left)
    → IfSome input (λ all. (n : ℕ) × (later : List (List ℕ)) × IsBehind config n later all)
first_known None config number pending left w = tt
first_known (Some all) config number pending left w = (number, lines_of (pending ++ w.rest), w.behind)

module _ (run : SiteRun) (old : Found) (number : ℕ) (left : Option (List ℕ)) (config pending : List ℕ)
    (x : SeenAsked) (first sends : List ℕ)
    (opens : OpensSite config run.me run.bank run.most old.file x first sends)
    (waits : IfSome run.input (WaitsBehind config number pending left)) where
  -- the site that was opened is the one that the input and the journal say
  abbrev pub starts : Starts run.me run.bank run.input (recovered old.file) x
  starts = record {
    config = config;
    is_of = opens.is_of;
    first = first_known run.input config number pending left waits;
    journal = opens.journal;
    replayed = opens.replayed;
    read = opens.read;
    once = opens.once;
  }

  -- what it may leave at any moment is what the whole run may leave
  pub run_behind : (c d : List ℕ)
      → IsNewOrAnswered run.all (recovered old.file) x sends number (served_input pending left) old.output c d → IsSiteRun run old c d
  run_behind c d (inl still) = inl (inr (record { start = x; starts = starts; still_new = still }))
  run_behind c d (inr has) = inr (record {
    start = x;
    starts = starts;
    number = number;
    behind = served_input pending left;
    behind_is = behind_known run.input config number pending left waits;
    answered = subst (λ s. HasAnswered run.all x s number (served_input pending left) old.output c d) opens.sends_are has;
  })

  -- how it ends is how the whole run ends
  pub ends_behind : (still : Option (List ℕ)) (now : List (List ℕ)) (said : List ℕ) (ended : Result ℕ ServeFault)
      → AnswersAll run.all x sends number (served_input pending left) still old.output now said ended
      → AnswersBehind run still old now said ended
  ends_behind still now said ended a = record {
    start = x;
    starts = starts;
    number = number;
    behind = served_input pending left;
    behind_is = behind_known run.input config number pending left waits;
    answered = subst (λ s. AnswersAll run.all x s number (served_input pending left) still old.output now said ended) opens.sends_are a;
  }

  -- if the site's journal is full, the whole run's is
  pub full_behind : IsFull (SiteAnswers run.all) number (served_input pending left) x (journal_of x)
      → IsFullBehind run (recovered old.file)
  full_behind full = record {
    start = x;
    starts = starts;
    number = number;
    behind = served_input pending left;
    behind_is = behind_known run.input config number pending left waits;
    full = full;
  }

-- a run that got past the opening, with a weaker claim of its end
pub ran : (A B : Result ℕ ServeFault → Type 0) (stops : SiteFault → Type 0) (r : Result ℕ SiteFault)
    → ((e : Result ℕ ServeFault) → A e → B e) → RunsTo A (λ _. ⊥) r → RunsTo B stops r
ran A B stops (Ok n) so a = so (Ok n) a
ran A B stops (Err Read) so (inl a) = inl (so _ a)
ran A B stops (Err Read) so (inr none) = absurd none
ran A B stops (Err Write) so a = tt
ran A B stops (Err Journal) so a = tt
ran A B stops (Err OutOfMemory) so a = tt
ran A B stops (Err _) so a = absurd a

-- a run that stopped in the opening
pub stopped_there : (A : Result ℕ ServeFault → Type 0) (stops : SiteFault → Type 0) (fault : SiteFault) → IsOpeningFault fault → stops fault
    → RunsTo A stops (Err fault)
stopped_there A stops Read is at = inr at
stopped_there A stops OutOfMemory is at = tt
stopped_there A stops Write is at = tt
stopped_there A stops Journal is at = tt
stopped_there A stops NoJournal is at = absurd is
stopped_there A stops JournalThere is at = absurd is
stopped_there A stops InUse is at = absurd is
stopped_there A stops _ is at = at
