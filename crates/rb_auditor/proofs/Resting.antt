-- Sites of which no entry can be taken now.
use Rattle.std.proofs.Common.{◌≡◌, ℕ, zero, suc, ◌≤◌, List, [], ◌∷◌, length, drop, refl, None, Some}
use Rattle.std.proofs.lemmas.Option.{slice_get_past}
use Rattle.std.specs.Prelude.{slice_get}
use Rattle.rb_site.specs.declared.entry.Entry.{Entry}
use Rattle.rb_site.specs.declared.event.Event.{Event}
use Rattle.rb_site.specs.declared.event.Event.TheVariants.{Receive}
use Rattle.rb_site.specs.declared.message.Message.{Message}
use Rattle.rb_site.specs.Histories.{IsAmong, IsFrom}
use Rattle.rb_auditor.specs.Progress.{IsHeldUp, Progress, Rests}
use Rattle.rb_auditor.proofs.Lists

-- past its end a history holds nothing up
pub held_past : (ms : List Message) (k : ℕ) (h : List Entry) → slice_get h k ≡ None → IsHeldUp ms (drop k h)
held_past ms zero [] at = tt
held_past ms zero (x ∷ h) at = cc
held_past ms (suc k) [] at = tt
held_past ms (suc k) (x ∷ h) at = held_past ms k h at

-- what can't come is the receipt of a message that wasn't sent
unsent : (ms : List Message) (e : Event) → ¬ IsFrom ms e → (m : Message) × (e ≡ Receive m) × ¬ IsAmong m ms
unsent ms (Receive m) h = (m, refl, h)
unsent ms _ h = absurd (h tt)

-- an entry that can't come yet holds up what is after it
pub held_here : (ms : List Message) (h : List Entry) (k : ℕ) (x : Entry) → slice_get h k ≡ Some x → ¬ IsFrom ms x.event
    → IsHeldUp ms (drop k h)
held_here ms h k x at not = rw (Lists.split_at h k x at).dropped (unsent ms x.event not)

-- a site rests whose entries were all taken
pub rests_past : (p : Progress) (i k : ℕ) (h : List Entry)
    → slice_get p.histories i ≡ Some h → slice_get p.taken i ≡ Some k → length h ≤ k → Rests p i
rests_past p i k h at taken past =
    record { taken = k; history = h; there = at; at = taken; held = held_past p.messages k h (slice_get_past h k past) }

-- a site rests whose next entry can't come yet
pub rests_here : (p : Progress) (i k : ℕ) (h : List Entry) (x : Entry)
    → slice_get p.histories i ≡ Some h → slice_get p.taken i ≡ Some k → slice_get h k ≡ Some x → ¬ IsFrom p.messages x.event
    → Rests p i
rests_here p i k h x at taken next not =
    record { taken = k; history = h; there = at; at = taken; held = held_here p.messages h k x next not }
