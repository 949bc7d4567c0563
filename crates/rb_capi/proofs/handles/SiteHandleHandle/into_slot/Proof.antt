-- `into_slot` keeps the pointer, and what it owns.
use Rattle.std.proofs.Common.{refl}
use Rattle.rb_capi.proofs.SlotMoves.{moved}
use Rattle.rb_capi.proofs.SlotValues.{Slot}
use Rattle.rb_capi.specs.contracts.kept_site.KeptSite.{the_row as R}
use Rattle.rb_capi.specs.contracts.handles.SiteHandle.{the_row as SiteHandle}
use Rattle.rb_capi.specs.contracts.handles.SiteHandleHandle.into_slot.Key.{name as #self}
use Rattle.rb_capi.proofs.handles.SiteHandleHandle.into_slot.Statement.{statement}
use Rattle.rb_capi.proofs.handles.SiteHandleHandle.into_slot.Code.{unfolded}

pub into_slot_spec : {M : Type 1} → statement M
into_slot_spec 𝓤 𝓛 𝓜 𝓡 wired =
    moved R SiteHandle (Slot R) (λ h. record { at = h.at; alloc = h.alloc; value = h.value }) (λ s. s) (λ s. s.value) (λ h vs. refl)
    (λ s vs. refl) (λ s. refl) (λ κs h. tt) 𝓤 𝓛 (λ κs h f. refl) _ _ 𝓜 𝓡 #self (unfolded 𝓤 𝓛.H 𝓜 𝓡 wired)
