-- Calls of a host that put nothing out.
use Rattle.std.specs.Prelude.{◌≡◌, ℕ, List, Result, OnOk}
use Rattle.rb_journal.specs.Host.{DiskCause, LeavesOnly}
use Rattle.rb_journal.specs.declared.host.Host.{Ghosts}
use Rattle.rb_journal.specs.declared.host.HostError.{HostError}

-- from old to new nothing is put out, a crash at any moment leaves a file that has P, and an error says that the file
-- failed
pub record Quiet {H T : Type 0} (h : Ghosts H) (P : List ℕ → Type 0) (old new : H) (result : Result T HostError) : Type 0 where
  pub usable : OnOk result (h.is_usable new)
  pub same : h.output new ≡ h.output old
  pub reported : h.reported new ≡ h.reported old
  pub run : LeavesOnly h.moment h.left_since old new (λ c d. P c × (d ≡ h.output old))
  pub cause : DiskCause (h.faults old) (h.faults new) result
