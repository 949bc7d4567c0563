-- A world without crashes goes on by one event.
use Rattle.std.proofs.Common.{◌≡◌, ℕ, zero, suc, ◌+◌, List, [], ◌∷◌, ◌++◌, ap, sym, subst, ◌∙◌, arith, add-zero, zero-add}
use Rattle.std.proofs.Common.{◌⊎◌, inl, inr, Some}
use Rattle.std.specs.Prelude.{slice_get, slice_set}
use Rattle.std.proofs.lemmas.List.{append-nil}
use Rattle.rb_money.specs.Settings.{Settings}
use Rattle.rb_site.specs.declared.event.Event.{Event}
use Rattle.rb_site.specs.declared.event.Event.TheVariants.{Receive}
use Rattle.rb_site.specs.declared.message.Message.{Message}
use Rattle.rb_site.specs.declared.world_event.WorldEvent.{WorldEvent}
use Rattle.rb_site.specs.declared.world_event.WorldEvent.TheVariants.{At, Deliver}
use Rattle.rb_site.specs.Events.{ModelSite, after_event, after_events, first_site, sent_at}
use Rattle.rb_site.specs.Histories.{IsAmong, sends_of}
use Rattle.rb_site.specs.Worlds.{IsCommand, IsOwn, World, first_world, world_after, world_at, world_of_run}
use Rattle.rb_site.proofs.Public.Places as Sets
use Rattle.rb_site.proofs.Public.Places.{same_number}
use Rattle.rb_site.proofs.Public.Runs
use Rattle.rb_site.proofs.Public.Stuck
use Rattle.rb_world.specs.Crashes.{DiskSite, IsSent, sites_from}
use Rattle.rb_world.specs.CrashLaws.{IsWorldOf}
use Rattle.rb_world.proofs.Places
use Rattle.rb_world.proofs.Stepping.{own-push}

-- ---- the event of the world

-- the number of a message that was sent
numbered : (m : Message) (ms : List Message) → IsAmong m ms → (k : ℕ) × (slice_get ms k ≡ Some m)
numbered m [] h = elim h [ ]
numbered m (n ∷ ms) (inl e) = (0, ap Some (sym e))
numbered m (n ∷ ms) (inr h) = let (k, at) = numbered m ms h in (suc k, at)

-- an event of the world that brings an event to a site
pub record Brings (s : Settings) (w : World) (i : ℕ) (t : ModelSite) (e : Event) : Type 0 where
  pub event : WorldEvent
  pub own : IsCommand event
  pub is : world_after s w event ≡ world_at s w i (Some e) (Some t)

-- an event of the site's own is brought by itself
pub brings_own : (s : Settings) (w : World) (i : ℕ) (t : ModelSite) (e : Event) → slice_get w.sites i ≡ Some t → IsOwn e →
    Brings s w i t e
brings_own s w i t e at own = record { event = At i e; own = own; is = ap (world_at s w i (Some e)) at }

-- the receipt of a message that was sent is brought by a delivery
pub brings_message : (s : Settings) (w : World) (i : ℕ) (t : ModelSite) (m : Message) → slice_get w.sites i ≡ Some t →
    IsAmong m w.messages → Brings s w i t (Receive m)
brings_message s w i t m at among =
    let (k, there) = numbered m w.messages among in record { event = Deliver i (suc k); own = tt; is = cc }

-- ---- the sites

-- the site of the number k
pub site_at : (s : Settings) (i k : ℕ) (w : List DiskSite) (d : DiskSite) → slice_get w k ≡ Some d →
    slice_get (sites_from s i w) k ≡ Some (after_events s (first_site (i + k)) d.events)
site_at s i k [] d at = cc
site_at s i zero (x ∷ w) d at = cc (add-zero i)
site_at s i (suc k) (x ∷ w) d at = let q : i + suc k ≡ i + 1 + k = omega arith in rw q (site_at s (i + 1) k w d at)

-- the sites where that of the number k has one event more
sites_set : (s : Settings) (i k : ℕ) (w : List DiskSite) (d more : DiskSite) (e : Event) → slice_get w k ≡ Some d →
    more.events ≡ d.events ++ e ∷ [] →
    sites_from s i (slice_set w k more) ≡ slice_set (sites_from s i w) k (after_event s (after_events s (first_site (i + k)) d.events) e)
sites_set s i k [] d more e at grown = cc
sites_set s i zero (x ∷ w) d more e at grown =
    let same : x ≡ d = cc in cc (Runs.after_events-append s d.events (e ∷ []) (first_site i), add-zero i)
sites_set s i (suc k) (x ∷ w) d more e at grown =
    let q : i + suc k ≡ i + 1 + k = omega arith in
    ap (λ ts. after_events s (first_site i) x.events ∷ ts) (rw q (sites_set s (i + 1) k w d more e at grown))

-- ---- the messages

-- what a site sent with one event more
sends_more : (s : Settings) (t : ModelSite) (es : List Event) (e : Event) →
    sends_of s t (es ++ e ∷ []) ≡ sends_of s t es ++ sent_at s (after_events s t es) e
sends_more s t es e = Stuck.sends-append s es (e ∷ []) t ∙ ap (λ ms. sends_of s t es ++ ms) (append-nil (sent_at s (after_events s t es) e))

-- the site i has one event more in the second of two lists of sites
record HasOneMore (s : Settings) (i : ℕ) (w : List DiskSite) (e : Event) (d more : DiskSite) : Type 0 where
  at : slice_get w i ≡ Some d
  grown : more.events ≡ d.events ++ e ∷ []

-- what the event sends there
abbrev sent_now : Settings → ℕ → DiskSite → Event → List Message
sent_now s i d e = sent_at s (after_events s (first_site i) d.events) e

sent_here : (s : Settings) (i : ℕ) (w : List DiskSite) (e : Event) (d more : DiskSite) (m : Message) → HasOneMore s i w e d more →
    IsAmong m (sends_of s (first_site i) d.events ++ sent_now s i d e) → IsSent s (slice_set w i more) m
sent_here s i w e d more m h among = record {
  number = i;
  site = more;
  at = Sets.get_set_same w i d more h.at;
  sent = subst (IsAmong m) (sym (ap (sends_of s (first_site i)) h.grown ∙ sends_more s (first_site i) d.events e)) among;
}

-- what was sent before is sent still
sent_before : (s : Settings) (i : ℕ) (w : List DiskSite) (e : Event) (d more : DiskSite) (m : Message) → HasOneMore s i w e d more →
    IsSent s w m → IsSent s (slice_set w i more) m
sent_before s i w e d more m h r = elim (same_number i r.number) [
  | inl q ↦ (let same : r.site ≡ d = cc (q, r.at, h.at) in
      sent_here s i w e d more m h (Stuck.among-left m (sends_of s (first_site i) d.events) (sent_now s i d e) (rw (q, same) at r.sent)))
  | inr ne ↦ record { number = r.number; site = r.site; at = cc (Sets.get_set_other w i r.number more ne, r.at); sent = r.sent }
]

-- and nothing else but what the event sends
sent_then : (s : Settings) (i : ℕ) (w : List DiskSite) (e : Event) (d more : DiskSite) (m : Message) → HasOneMore s i w e d more →
    IsSent s (slice_set w i more) m → IsSent s w m ⊎ IsAmong m (sent_now s i d e)
sent_then s i w e d more m h r = Places.each_set w i d more
    (λ j (y : DiskSite). IsAmong m (sends_of s (first_site j) y.events) → IsSent s w m ⊎ IsAmong m (sent_now s i d e)) h.at
    (λ sent. elim (Stuck.among-cases m (sends_of s (first_site i) d.events) (sent_now s i d e)
    (rw (sends_more s (first_site i) d.events e) at (rw h.grown at sent))) [
      | inl k ↦ inl (record { number = i; site = d; at = h.at; sent = k })
      | inr k ↦ inr k
    ])
    (λ j y ne at sent. inl (record { number = j; site = y; at = at; sent = sent })) r.number r.site r.at r.sent

-- ---- the world

-- with one event more at a site, one that can be brought there, the sites are a world's still
pub grown : (s : Settings) (i : ℕ) (w : List DiskSite) (e : Event) (d more : DiskSite) (x : IsWorldOf s w) → slice_get w i ≡ Some d →
    more.events ≡ d.events ++ e ∷ [] → Brings s (world_of_run s x.events) i (after_events s (first_site i) d.events) e →
    IsWorldOf s (slice_set w i more)
grown s i w e d more x at longer b = record {
  events = x.events ++ b.event ∷ [];
  own = own-push x.events b.event x.own b.own;
  sites = cc (is, x.sites, sites_set s 0 i w d more e at longer, zero-add i);
  sent = λ m. (to m, from m);
}
  where
    t : ModelSite
    t = after_events s (first_site i) d.events

    before : World
    before = world_of_run s x.events

    is : world_of_run s (x.events ++ b.event ∷ []) ≡ world_at s before i (Some e) (Some t)
    is = Runs.world-append s x.events (b.event ∷ []) (first_world s) ∙ b.is

    one : HasOneMore s i w e d more
    one = record { at = at; grown = longer }

    to : (m : Message) → IsAmong m (world_of_run s (x.events ++ b.event ∷ [])).messages → IsSent s (slice_set w i more) m
    to m h = elim (Stuck.among-cases m before.messages (sent_at s t e) (rw is at h)) [
      | inl k ↦ sent_before s i w e d more m one ((x.sent m).0 k)
      | inr k ↦ sent_here s i w e d more m one (Stuck.among-right m (sends_of s (first_site i) d.events) (sent_at s t e) k)
    ]

    from : (m : Message) → IsSent s (slice_set w i more) m → IsAmong m (world_of_run s (x.events ++ b.event ∷ [])).messages
    from m r = rw is (elim (sent_then s i w e d more m one r) [
      | inl k ↦ Stuck.among-left m before.messages (sent_at s t e) ((x.sent m).1 k)
      | inr k ↦ Stuck.among-right m before.messages (sent_at s t e) k
    ])
