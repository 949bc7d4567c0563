-- `of_slot` keeps the pointer, and what it owns.
use Rattle.std.proofs.Common.{refl}
use Rattle.rb_capi.proofs.SlotMoves.{moved}
use Rattle.rb_capi.proofs.SlotValues.{Slot}
use Rattle.rb_capi.specs.contracts.kept_journal.KeptJournal.{the_row as R}
use Rattle.rb_capi.specs.contracts.handles.JournalHandle.{the_row as JournalHandle}
use Rattle.rb_capi.specs.contracts.handles.JournalHandleHandle.of_slot.Key.{name as #self}
use Rattle.rb_capi.proofs.handles.JournalHandleHandle.of_slot.Statement.{statement}
use Rattle.rb_capi.proofs.handles.JournalHandleHandle.of_slot.Code.{unfolded}

pub of_slot_spec : {M : Type 1} → statement M
of_slot_spec 𝓤 𝓛 𝓜 𝓡 wired =
    moved R (Slot R) JournalHandle (λ s. s) (λ s. record { at = s.at; alloc = s.alloc; value = s.value }) (λ h. h.value) (λ s vs. refl)
    (λ s vs. refl) (λ s. refl) (λ κs s. tt) 𝓤 𝓛 (λ κs s f. refl) _ _ 𝓜 𝓡 #self (unfolded 𝓤 𝓛.H 𝓜 𝓡 wired)
