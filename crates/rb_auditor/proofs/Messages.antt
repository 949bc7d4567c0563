-- Messages that were sent.
use Rattle.std.proofs.Common.{◌≡◌, ℕ, suc, ◌+◌, ◌<◌, List, [], ◌∷◌, ◌++◌, length, take, get_or, ap, sym, ◌∙◌, inl, inr, subst, Some}
use Rattle.std.proofs.Common.{Option}
use Rattle.std.specs.Prelude.{option_map, slice_get}
use Rattle.std.proofs.lemmas.List.{append-nil, map-append, take_more}
use Rattle.std.proofs.lemmas.Option.{slice_get-get_or, some_pair_parts}
use Rattle.rb_money.specs.Settings.{Settings}
use Rattle.rb_site.specs.declared.entry.Entry.{Entry}
use Rattle.rb_site.specs.declared.event.Event.TheVariants.{Receive}
use Rattle.rb_site.specs.declared.message.Message.{Message}
use Rattle.rb_site.specs.Events.{ModelSite, after_events, sent_at}
use Rattle.rb_site.specs.Histories.{IsAmong, IsFrom, events_of, sends_of}
use Rattle.rb_site.proofs.Public.Recorded.{at_place}
use Rattle.rb_site.proofs.Public.Stuck
use Rattle.rb_auditor.specs.Progress.{IsHeldUp}
use Rattle.rb_auditor.specs.Sent.{row_of_message, slot_of}

-- the number of a message that was sent
pub numbered : (m : Message) (ms : List Message) → IsAmong m ms → (k : ℕ) × (slice_get ms k ≡ Some m)
numbered m [] h = elim h [ ]
numbered m (n ∷ ms) (inl e) = (0, cc)
numbered m (n ∷ ms) (inr h) = let (k, at) = numbered m ms h in (suc k, at)

-- what is held up can't come
pub held_up : (ms : List Message) (xs rest : List Entry) (x : Entry) → IsHeldUp ms xs → xs ≡ x ∷ rest → IsFrom ms x.event → ⊥
held_up ms [] rest x h e come = cc
held_up ms (y ∷ ys) rest x (m, is, not) e come =
    let event : x.event ≡ Receive m = (let same : x ≡ y = cc in rw same is) in
    not (rw event at come)

-- what one entry more sends
pub sends_more : (s : Settings) (t : ModelSite) (xs : List Entry) (x : Entry)
    → sends_of s t (events_of (xs ++ x ∷ [])) ≡ sends_of s t (events_of xs) ++ sent_at s (after_events s t (events_of xs)) x.event
sends_more s t xs x =
    ap (sends_of s t) (map-append (λ (y : Entry). y.event) xs (x ∷ []))
    ∙ Stuck.sends-append s (events_of xs) (x.event ∷ []) t
    ∙ ap (λ ms. sends_of s t (events_of xs) ++ ms) (append-nil (sent_at s (after_events s t (events_of xs)) x.event))

-- ---- messages that are looked for one place after another

-- a message that is found is among them
pub found : (ms : List Message) (k : ℕ) (d m : Message) → k < length ms → get_or ms k d ≡ m → IsAmong m ms
found ms k d m less is = at_place ms k m (slice_get-get_or ms k d less ∙ ap Some is)

-- one that isn't at the next place isn't among the first of this number either
pub not_found : (ms : List Message) (k : ℕ) (d m : Message) → k < length ms → ¬ IsAmong m (take k ms) → ¬ (get_or ms k d ≡ m)
    → ¬ IsAmong m (take (k + 1) ms)
not_found ms k d m less before other among =
    elim (Stuck.among-cases m (take k ms) (get_or ms k d ∷ []) (subst (IsAmong m) (take_more ms k d less) among)) [
      | inl a ↦ before a
      | inr b ↦ elim b [ inl e ↦ other (sym e) | inr z ↦ z ]
    ]

-- ---- the row and the slot of a message, as the code reads them

-- the row and the slot that are read are those of the message
pub number_at : (o : Option Message) (m : Message) (row slot : ℕ) → o ≡ Some m
    → option_map {U = ℕ × ℕ} (λ m. (row_of_message m, slot_of m)) o ≡ Some (row, slot)
    → (row_of_message m ≡ row) × (slot_of m ≡ slot)
number_at o m row slot found is = some_pair_parts _ _ _ _ (rw found at is)
