-- How a site is sealed.
use Rattle.std.specs.Prelude.{◌≡◌, ◌⊎◌, ℕ, List, [], Option, Some, Result, Ok, Err}
use Rattle.std.specs.List.{concat}
use Rattle.rb_journal.specs.Host.{Only}
use Rattle.rb_journal.specs.Journal.{IsRepaired}
use Rattle.rb_journal.specs.Lines.{IsIntact, IsSealed, recovered, sealed}
use Rattle.rb_node.specs.Asked.{SeenAsked}
use Rattle.rb_run_site.specs.Journals.{journal_of}
use Rattle.rb_run_site.specs.Openings.{IsOpeningCause}
use Rattle.rb_run_site.specs.Starts.{Starts}
use Rattle.rb_run_site.specs.declared.fault.SiteFault.{SiteFault}
use Rattle.rb_run_site.specs.declared.fault.SiteFault.TheVariants.{NoJournal, JournalThere, InUse, Journal, OutOfMemory, Write}

-- a journal's own lines, as an input: the first of them is the configuration's
abbrev pub own_input : List ℕ → Option (List ℕ)
own_input file = Some (concat (recovered file))

-- a run of site `me`, of the journal's own configuration, starts with this site, and the lines are its journal: each
-- entry was replayed
pub record StartsAlone (me : ℕ) (file : List ℕ) : Type 0 where
  pub start : SeenAsked
  pub starts : Starts me [] (own_input file) (recovered file) start
  pub lines_are : recovered file ≡ journal_of start

-- why the journal isn't sealed: a fault of a run's start whose input is the journal's own lines
abbrev pub IsSealCause : ℕ → List ℕ → SiteFault → Type 0
IsSealCause me file fault = (left : Option (List ℕ)) × IsOpeningCause me [] (own_input file) left file fault

-- the site starts by the lines of this file, and they are sealed, all of it on the disk
pub record HasSealed (me : ℕ) (file c : List ℕ) (may_leave : List ℕ → Type 0) : Type 0 where
  pub starts : StartsAlone me file
  pub sealed_is : c ≡ sealed (recovered file)
  pub is_sealed : IsSealed c
  pub durable : Only c may_leave

-- how sealing ends: no line is answered, and the file is sealed; or it stopped before anything was changed, for this
-- fault. Of a failed journal and of running out of memory nothing is said here
abbrev pub SealsTo : Type 0 → (SiteFault → Type 0) → Result ℕ SiteFault → Type 0
SealsTo done stops (Ok n) = (n ≡ 0) × done
SealsTo done stops (Err Journal) = Unit {0}
SealsTo done stops (Err OutOfMemory) = Unit {0}
SealsTo done stops (Err Write) = ⊥
SealsTo done stops (Err NoJournal) = ⊥
SealsTo done stops (Err JournalThere) = ⊥
SealsTo done stops (Err InUse) = ⊥
SealsTo done stops (Err fault) = stops fault

-- the file is as it was, or as a repair leaves it: its lines are the same, it isn't damaged if the file wasn't, and it
-- isn't sealed
pub record IsUnsealed (file c : List ℕ) : Type 0 where
  pub lines_are : recovered c ≡ recovered file
  pub repaired : IsRepaired file c
  pub intact : IsIntact file → IsIntact c
  pub unsealed : ¬ IsSealed c

-- at any moment the file is sealed or it isn't, with the same lines, and nothing was put out
abbrev pub IsSealRun : List ℕ → List ℕ → List ℕ → List ℕ → Type 0
IsSealRun file output c d = ((c ≡ sealed (recovered file)) ⊎ IsUnsealed file c) × (d ≡ output)
