-- Recorded events, and sites that have gone on.
use Rattle.std.proofs.Common.{◌≡◌, ℕ, zero, suc, Bool, true, false, cond, not, ◌&&◌, List, [], ◌∷◌, ◌++◌, refl, ap, sym, ◌∙◌, inl, inr}
use Rattle.std.proofs.Common.{Option, Some, None, append_assoc}
use Rattle.std.specs.Prelude.{option_map, slice_get, slice_set, is_some}
use Rattle.std.proofs.lemmas.List.{append-nil}
use Rattle.rb_site.proofs.Public.Places.{get_set_other, get_set_same, same_number}
use Rattle.rb_money.specs.Settings.{Settings}
use Rattle.rb_shadow.proofs.Public.Members
use Rattle.rb_site.proofs.Public.Runs
use Rattle.rb_site.specs.declared.event.Event.{Event}
use Rattle.rb_site.specs.declared.event.Event.TheVariants.{Receive}
use Rattle.rb_site.specs.declared.message.Message.{Message}
use Rattle.rb_site.specs.declared.world_event.WorldEvent.{WorldEvent}
use Rattle.rb_site.specs.declared.world_event.WorldEvent.TheVariants.{At, Deliver}
use Rattle.rb_site.specs.Events.{ModelSite, after_event, is_full, outcome_of}
use Rattle.rb_site.specs.Worlds.{AreOwn, IsOwn, World, is_recorded, is_recorded_at, message_at, world_after, world_after_all, world_at}
use Rattle.rb_site.specs.Histories.{IsAmong, IsFrom, site_of}

-- the site i has gone on from t
pub record Later (w : World) (i : ℕ) (t : ModelSite) : Type 0 where
  pub site : ModelSite
  pub at : slice_get w.sites i ≡ Some site
  pub more : List Event
  pub me : site.me ≡ t.me
  pub longer : site.history ≡ t.history ++ more

not_yet : (w : World) (i : ℕ) (t : ModelSite) → slice_get w.sites i ≡ Some t → Later w i t
not_yet w i t at = record { site = t; at = at; more = []; me = refl; longer = sym (append-nil t.history) }

-- what an event leaves of the history
pub noted_history : (s : Settings) (t : ModelSite) (e : Event) → is_full s t ≡ false → (after_event s t e).history ≡ t.history ++ e ∷ []
noted_history s t e room = ap (λ b. (cond b t (Runs.noted s t e)).history) room

-- what it leaves of the site's number
pub me_after : (s : Settings) (t : ModelSite) (e : Event) → (after_event s t e).me ≡ t.me
me_after s t e = by (is_full s t)
  where
    by : (b : Bool) → (cond b t (Runs.noted s t e)).me ≡ t.me
    by true = refl
    by false = Runs.same_me t (outcome_of s t e)

event_later : (s : Settings) (t : ModelSite) (e : Event) → (more : List Event) × ((after_event s t e).history ≡ t.history ++ more)
event_later s t e = elim (Members.bool_cases (is_full s t)) [
  | inl h ↦ ([], ap (λ b. (cond b t (Runs.noted s t e)).history) h ∙ sym (append-nil t.history))
  | inr h ↦ (e ∷ [], noted_history s t e h)
]

later_at : (s : Settings) (w : World) (i j : ℕ) (t : ModelSite) (e : Event) → slice_get w.sites i ≡ Some t → (o : Option ModelSite) →
    slice_get w.sites j ≡ o → Later (world_at s w j (Some e) o) i t
later_at s w i j t e at None h = not_yet w i t at
later_at s w i j t e at (Some u) h = elim (same_number j i) [
  | inl q ↦ (let same : t ≡ u = (let k : Some t ≡ Some u = sym at ∙ ap (slice_get w.sites) q ∙ h in cc) in
      let m : (more : List Event) × ((after_event s u e).history ≡ u.history ++ more) = event_later s u e in
      record {
        site = after_event s u e;
        at = ap (slice_get (slice_set w.sites j (after_event s u e))) q ∙ get_set_same w.sites j u (after_event s u e) h;
        more = m.0;
        me = me_after s u e ∙ ap (λ (v : ModelSite). v.me) (sym same);
        longer = m.1 ∙ ap (λ (v : ModelSite). v.history ++ m.0) (sym same);
      })
  | inr ne ↦ record {
    site = t;
    at = get_set_other w.sites j i (after_event s u e) ne ∙ at;
    more = [];
    me = refl;
    longer = sym (append-nil t.history);
  }
]

later_event : (s : Settings) (w : World) (i : ℕ) (t : ModelSite) (e : WorldEvent) → slice_get w.sites i ≡ Some t →
    Later (world_after s w e) i t
later_event s w i t (At j x) at = later_at s w i j t x at (slice_get w.sites j) refl
later_event s w i t (Deliver j k) at = by (message_at w.messages k)
  where
    by : (o : Option Message) → Later (world_at s w j (option_map Receive o) (slice_get w.sites j)) i t
    by None = not_yet w i t at
    by (Some m) = later_at s w i j t (Receive m) at (slice_get w.sites j) refl

-- after any list of events, a site of the world has gone on from what it was
pub later_all : (s : Settings) (es : List WorldEvent) (w : World) (i : ℕ) (t : ModelSite) → slice_get w.sites i ≡ Some t →
    Later (world_after_all s w es) i t
later_all s [] w i t at = not_yet w i t at
later_all s (e ∷ es) w i t at =
    let one : Later (world_after s w e) i t = later_event s w i t e at in
    let rest : Later (world_after_all s (world_after s w e) es) i one.site = later_all s es (world_after s w e) i one.site one.at in
    record {
      site = rest.site;
      at = rest.at;
      more = one.more ++ rest.more;
      me = rest.me ∙ one.me;
      longer = rest.longer ∙ ap (λ h. h ++ rest.more) one.longer ∙ append_assoc t.history one.more rest.more;
    }

-- what a recorded event is
pub record IsRecorded (s : Settings) (w : World) (e : WorldEvent) : Type 0 where
  pub event : Event
  pub site : ModelSite
  pub at : slice_get w.sites (site_of e) ≡ Some site
  pub room : is_full s site ≡ false
  pub source : IsFrom w.messages event
  pub is : world_after s w e ≡ world_at s w (site_of e) (Some event) (Some site)

-- what is at a place is one of them
pub at_place : (ms : List Message) (k : ℕ) (m : Message) → slice_get ms k ≡ Some m → IsAmong m ms
at_place [] k m h = cc
at_place (n ∷ ms) zero m h = inl (let e : m ≡ n = cc in e)
at_place (n ∷ ms) (suc k) m h = inr (at_place ms k m h)

-- the message of a number is one of them
pub placed : (ms : List Message) (k : ℕ) (m : Message) → message_at ms k ≡ Some m → IsAmong m ms
placed ms zero m h = cc
placed ms (suc k) m h = at_place ms k m h

-- an event of a site's own comes from no message
pub own_from : (ms : List Message) (e : Event) → IsOwn e → IsFrom ms e
own_from ms (Receive m) h = elim h [ ]
own_from ms _ h = tt

roomy : (s : Settings) (o : Option ModelSite) → is_recorded_at s o ≡ true → (t : ModelSite) × (o ≡ Some t) × (is_full s t ≡ false)
roomy s None h = cc
roomy s (Some t) h = (t, refl, not_true (is_full s t) h)
  where
    not_true : (b : Bool) → not b ≡ true → b ≡ false
    not_true true k = cc
    not_true false k = refl

-- if messages come by deliveries alone, a recorded event is at a site whose history isn't full, and is the site's
-- own or receives a message that was sent
pub is_recorded_event : (s : Settings) (w : World) (e : WorldEvent) → AreOwn (e ∷ []) → is_recorded s w e ≡ true → IsRecorded s w e
is_recorded_event s w (At i x) own h = let (t, at, room) = roomy s (slice_get w.sites i) h in
    record { event = x; site = t; at = at; room = room; source = own_from w.messages x own.0; is = ap (world_at s w i (Some x)) at }
is_recorded_event s w (Deliver i k) own h = by (message_at w.messages k) refl h
  where
    first : (b c : Bool) → (b && c) ≡ true → b ≡ true
    first true c h = refl
    first false c h = cc

    none : (b : Bool) → (b && false) ≡ true → ⊥
    none true h = cc
    none false h = cc

    by : (o : Option Message) → message_at w.messages k ≡ o → (is_recorded_at s (slice_get w.sites i) && is_some o) ≡ true →
        IsRecorded s w (Deliver i k)
    by None e q = absurd (none (is_recorded_at s (slice_get w.sites i)) q)
    by (Some m) e q = let (t, at, room) = roomy s (slice_get w.sites i) (first (is_recorded_at s (slice_get w.sites i)) true q) in
        record {
          event = Receive m;
          site = t;
          at = at;
          room = room;
          source = placed w.messages k m e;
          is = ap (λ o. world_at s w i (option_map Receive o) (slice_get w.sites i)) e ∙ ap (world_at s w i (Some (Receive m))) at;
        }

-- if messages come by deliveries alone in a list, they do in its first event and in the rest
pub split_own : (e : WorldEvent) (es : List WorldEvent) → AreOwn (e ∷ es) → AreOwn (e ∷ []) × AreOwn es
split_own (At i x) es h = ((h.0, tt), h.1)
split_own (Deliver i k) es h = (tt, h)
