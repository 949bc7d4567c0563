-- Runs, one event after another.
use Rattle.std.proofs.Common.{◌≡◌, ℕ, zero, suc, Bool, true, false, cond, not, ◌&&◌, List, [], ◌∷◌, ◌++◌, refl, ap, ◌∙◌, Option, Some, None}
use Rattle.std.specs.Prelude.{option_map, slice_get, slice_set, is_some}
use Rattle.std.proofs.lemmas.List.{append-nil}
use Rattle.rb_money.specs.Settings.{Settings}
use Rattle.rb_site.specs.declared.event.Event.{Event}
use Rattle.rb_site.specs.declared.event.Event.TheVariants.{Receive}
use Rattle.rb_site.specs.declared.message.Message.{Message}
use Rattle.rb_site.specs.declared.world_event.WorldEvent.{WorldEvent}
use Rattle.rb_site.specs.declared.world_event.WorldEvent.TheVariants.{At, Deliver}
use Rattle.rb_site.specs.Events.{Answers, Applies, Drops, Holds, Makes, MakesAll, ModelSite, Outcome, Passes, Refuses, Shows, Takes}
use Rattle.rb_site.specs.Events.{after_event, after_events, changed, first_site, is_full, outcome_of, sent_by}
use Rattle.rb_site.specs.Worlds.{World, is_recorded, is_recorded_at, message_at, world_after, world_after_all, world_at}

-- a site after two lists of events is the one after the second, begun after the first
pub after_events-append : (s : Settings) (es fs : List Event) (t : ModelSite) →
    after_events s t (es ++ fs) ≡ after_events s (after_events s t es) fs
after_events-append s [] fs t = refl
after_events-append s (e ∷ es) fs t = after_events-append s es fs (after_event s t e)

-- the same of a world
pub world-append : (s : Settings) (es fs : List WorldEvent) (w : World) →
    world_after_all s w (es ++ fs) ≡ world_after_all s (world_after_all s w es) fs
world-append s [] fs w = refl
world-append s (e ∷ es) fs w = world-append s es fs (world_after s w e)

-- no outcome changes the site's number
pub same_me : (t : ModelSite) (o : Outcome) → (changed t o).me ≡ t.me
same_me t (Refuses why) = refl
same_me t (Answers r) = refl
same_me t (Shows a) = refl
same_me t (Drops x why) = refl
same_me t (Makes v) = refl
same_me t (MakesAll vs) = refl
same_me t (Holds v) = refl
same_me t (Applies v) = refl
same_me t (Takes m) = refl
same_me t (Passes m) = refl

-- the site after an event, if its history wasn't full
abbrev pub noted : Settings → ModelSite → Event → ModelSite
noted s t e = record (changed t (outcome_of s t e)) { history = t.history ++ e ∷ [] }

-- the site's state is what the run of its own history leads to
abbrev pub IsRunOfItsHistory : Settings → ModelSite → Type 0
IsRunOfItsHistory s t = after_events s (first_site t.me) t.history ≡ t

-- a site stays the run of its own history
pub run_goes_on : (s : Settings) (t : ModelSite) (e : Event) → IsRunOfItsHistory s t → IsRunOfItsHistory s (after_event s t e)
run_goes_on s t e run = by (is_full s t) refl
  where
    n : ModelSite
    n = noted s t e

    by : (b : Bool) → is_full s t ≡ b → IsRunOfItsHistory s (cond b t n)
    by true q = run
    by false q =
        ap (λ me. after_events s (first_site me) n.history) (same_me t (outcome_of s t e))
        ∙ after_events-append s t.history (e ∷ []) (first_site t.me)
        ∙ ap (λ u. after_event s u e) run
        ∙ ap (λ b. cond b t n) q

-- an event that no site records changes nothing
set-same : (ts : List ModelSite) (i : ℕ) (t : ModelSite) → slice_get ts i ≡ Some t → slice_set ts i t ≡ ts
set-same [] i t h = refl
set-same (u ∷ ts) zero t h = ap (λ x. x ∷ ts) (let e : t ≡ u = cc in e)
set-same (u ∷ ts) (suc i) t h = ap (λ xs. u ∷ xs) (set-same ts i t h)

unrecorded_at : (s : Settings) (w : World) (i : ℕ) (e : Event) (o : Option ModelSite) → slice_get w.sites i ≡ o → is_recorded_at s o ≡ false
    → world_at s w i (Some e) o ≡ w
unrecorded_at s w i e None at h = refl
unrecorded_at s w i e (Some t) at h = by (is_full s t) h
  where
    with_sites : List ModelSite → List Message → World
    with_sites ts ms = record { sites = ts; messages = ms }

    by : (b : Bool) → not b ≡ false → with_sites (slice_set w.sites i (cond b t (noted s t e))) (w.messages
        ++ cond b [] (sent_by (outcome_of s t e))) ≡ w
    by true q = ap (λ ts. with_sites ts (w.messages ++ [])) (set-same w.sites i t at) ∙ ap (with_sites w.sites) (append-nil w.messages)
    by false q = cc

-- what no site records leaves the world as it is
pub unrecorded : (s : Settings) (w : World) (e : WorldEvent) → is_recorded s w e ≡ false → world_after s w e ≡ w
unrecorded s w (At i e) h = unrecorded_at s w i e (slice_get w.sites i) refl h
unrecorded s w (Deliver i k) h = by (message_at w.messages k) h
  where
    first : (b : Bool) → (b && true) ≡ false → b ≡ false
    first true q = cc
    first false q = refl

    by : (o : Option Message) → (is_recorded_at s (slice_get w.sites i) && is_some o) ≡ false →
        world_at s w i (option_map Receive o) (slice_get w.sites i) ≡ w
    by None q = refl
    by (Some m) q = unrecorded_at s w i (Receive m) (slice_get w.sites i) refl (first _ q)
