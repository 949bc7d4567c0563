-- The outcome of a run of a site that stops, by the fault of what it ran over.
use Rattle.std.proofs.Common.{◌≡◌, ℕ, Result, Err, refl, subst, sym, inl}
use Rattle.rb_journal.specs.declared.host.HostError.{HostError}
use Rattle.rb_journal.specs.declared.host.HostError.TheVariants.{Memory, DiskFailed as DiskError, OutputFailed, Full}
use Rattle.rb_journal.specs.Ends.{EndsAtRest}
use Rattle.rb_journal.specs.Faults.{fault_of_host}
use Rattle.rb_journal.specs.declared.fault.ServeFault.{ServeFault}
use Rattle.rb_journal.specs.declared.fault.ServeFault.TheVariants.{Read, Write, Journal, OutOfMemory}
use Rattle.rb_run_site.specs.Ends.{RunsTo}
use Rattle.rb_run_site.specs.Faults.{fault_of_serve}
use Rattle.rb_run_site.specs.declared.fault.SiteFault.{SiteFault}
use Rattle.rb_run_site.specs.declared.fault.SiteFault.TheVariants.{Journal as DiskFailed, Read as NotRead}

-- the lines stopped: what holds of their end, if they end at rest, holds of the run's
pub stopped : (A : Result ℕ ServeFault → Type 0) (fault : ServeFault) (f : SiteFault) → f ≡ fault_of_serve fault
    → (EndsAtRest {T = ℕ} (Err fault) → A (Err fault)) → RunsTo A (λ _. ⊥) (Err f)
stopped A fault f is ends = subst (λ why. RunsTo A (λ _. ⊥) (Err why)) (sym is) (by fault ends)
  where
    by : (why : ServeFault) → (EndsAtRest {T = ℕ} (Err why) → A (Err why)) → RunsTo A (λ _. ⊥) (Err (fault_of_serve why))
    by Read ends = inl (ends tt)
    by Write ends = tt
    by Journal ends = tt
    by OutOfMemory ends = tt

-- the journal wasn't opened: of the end nothing is said
pub not_begun : (A : Result ℕ ServeFault → Type 0) (e : HostError) (f : SiteFault) → f ≡ fault_of_serve (fault_of_host e)
    → RunsTo A (λ _. ⊥) (Err f)
not_begun A e f is = subst (λ why. RunsTo A (λ _. ⊥) (Err why)) (sym is) (by e)
  where
    by : (why : HostError) → RunsTo A (λ _. ⊥) (Err (fault_of_serve (fault_of_host why)))
    by Memory = tt
    by DiskError = tt
    by OutputFailed = tt
    by Full = tt

-- a host fails no read
pub never_read : (e : HostError) → fault_of_serve (fault_of_host e) ≡ NotRead → ⊥
never_read Memory is = cc is
never_read DiskError is = cc is
never_read OutputFailed is = cc is
never_read Full is = cc is

-- a journal that isn't full failed since the disk did
pub only_disk : (e : HostError) → fault_of_serve (fault_of_host e) ≡ DiskFailed → (e ≡ Full → ⊥) → e ≡ DiskError
only_disk Memory is room = absurd (cc is)
only_disk DiskError is room = refl
only_disk OutputFailed is room = absurd (cc is)
only_disk Full is room = absurd (room refl)
