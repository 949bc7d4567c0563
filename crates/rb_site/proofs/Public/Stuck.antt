-- Histories that are stuck are not one world's.
use Rattle.std.proofs.Common.{◌≡◌, ℕ, zero, suc, ◌+◌, List, [], ◌∷◌, ◌++◌, refl, ap, sym, ◌∙◌, arith, ◌⊎◌, inl, inr, subst, Option, Some}
use Rattle.std.proofs.Common.{None, append_assoc}
use Rattle.std.specs.Prelude.{map, slice_get, slice_set}
use Rattle.std.specs.Option.{option_map}
use Rattle.std.specs.List.{range_with_len}
use Rattle.std.proofs.lemmas.Option.{slice_get-map}
use Rattle.std.proofs.lemmas.List.{append-nil, map-append}
use Rattle.rb_money.specs.Settings.{Settings}
use Rattle.rb_shadow.proofs.Public.Members
use Rattle.rb_site.specs.declared.entry.Entry.{Entry}
use Rattle.rb_site.specs.declared.event.Event.{Event}
use Rattle.rb_site.specs.declared.event.Event.TheVariants.{Receive}
use Rattle.rb_site.specs.declared.message.Message.{Message}
use Rattle.rb_site.specs.declared.world_event.WorldEvent.{WorldEvent}
use Rattle.rb_site.specs.Events.{ModelSite, after_event, after_events, first_site, reply_to, sent_at}
use Rattle.rb_site.specs.Worlds.{AreOwn, World, first_world, is_recorded, world_after, world_after_all, world_of_run}
use Rattle.rb_site.specs.Histories.{IsAmong, IsBlocked, IsCut, StuckIsFinal, IsFrom, with_replies, events_of, histories_of, history_of}
use Rattle.rb_site.specs.Histories.{site_of, sends_of}
use Rattle.rb_site.proofs.Public.Runs
use Rattle.rb_site.proofs.Public.Runs.{IsRunOfItsHistory}
use Rattle.rb_site.proofs.Public.Recorded
use Rattle.rb_site.proofs.Public.Recorded.{IsRecorded, Later}
use Rattle.rb_site.proofs.Public.Seen
use Rattle.rb_site.proofs.Public.Places.{get_set_other, get_set_same, same_number}

-- ---- messages

-- a message of the first list is one of the two together
pub among-left : (m : Message) (ms ns : List Message) → IsAmong m ms → IsAmong m (ms ++ ns)
among-left m [] ns h = elim h [ ]
among-left m (n ∷ ms) ns (inl e) = inl e
among-left m (n ∷ ms) ns (inr h) = inr (among-left m ms ns h)

-- a message of the second list is one of the two together
pub among-right : (m : Message) (ms ns : List Message) → IsAmong m ns → IsAmong m (ms ++ ns)
among-right m [] ns h = h
among-right m (n ∷ ms) ns h = inr (among-right m ms ns h)

-- a message of two lists together is one of the first or one of the second
pub among-cases : (m : Message) (ms ns : List Message) → IsAmong m (ms ++ ns) → IsAmong m ms ⊎ IsAmong m ns
among-cases m [] ns h = inr h
among-cases m (n ∷ ms) ns (inl e) = inl (inl e)
among-cases m (n ∷ ms) ns (inr h) = elim (among-cases m ms ns h) [ inl k ↦ inl (inr k) | inr k ↦ inr k ]

-- two lists of events send what the first sends, and then what the second sends after the first
pub sends-append : (s : Settings) (es fs : List Event) (t : ModelSite) →
    sends_of s t (es ++ fs) ≡ sends_of s t es ++ sends_of s (after_events s t es) fs
sends-append s [] fs t = refl
sends-append s (e ∷ es) fs t = ap (λ ms. sent_at s t e ++ ms) (sends-append s es fs (after_event s t e))
    ∙ sym (append_assoc (sent_at s t e) (sends_of s (after_event s t e) es) (sends_of s (after_events s (after_event s t e) es) fs))

-- a prefix sends no more
front_sends : (s : Settings) (t : ModelSite) (h more : List Entry) (m : Message) → IsAmong m (sends_of s t (events_of h)) →
    IsAmong m (sends_of s t (events_of (h ++ more)))
front_sends s t h more m k = subst (IsAmong m) (sym (ap (sends_of s t) (map-append (λ (x : Entry). x.event) h more)
    ∙ sends-append s (events_of h) (events_of more) t)) (among-left m (sends_of s t (events_of h)) _ k)

-- ---- a world within the prefixes

-- the site has this number and is the run of its history, and its prefix begins with that history
pub record IsWithinFront (s : Settings) (fronts : List (List Entry)) (i : ℕ) (t : ModelSite) : Type 0 where
  pub me : t.me ≡ i
  pub run : IsRunOfItsHistory s t
  pub front : List Entry
  pub there : slice_get fronts i ≡ Some front
  pub more : List Entry
  pub goes_on : front ≡ history_of s t ++ more

-- each site of the world is within its prefix, and each message that was sent is sent in a prefix
pub record IsWithinFronts (s : Settings) (fronts : List (List Entry)) (w : World) : Type 0 where
  pub sites : (i : ℕ) (t : ModelSite) → slice_get w.sites i ≡ Some t → IsWithinFront s fronts i t
  pub sent : (m : Message) → IsAmong m w.messages → (j : ℕ) × (f : List Entry) × (slice_get fronts j ≡ Some f)
      × IsAmong m (sends_of s (first_site j) (events_of f))

-- what a site sends next it sends in its prefix
sent_in_front : (s : Settings) (t t1 : ModelSite) (i : ℕ) (e : Event) (x : Entry) (front more : List Entry) (m : Message) → t.me ≡ i →
    IsRunOfItsHistory s t → x.event ≡ e → front ≡ (history_of s t ++ x ∷ []) ++ more → IsAmong m (sent_at s t e) →
    IsAmong m (sends_of s (first_site i) (events_of front))
sent_in_front s t t1 i e x front more m me run ev is h =
    subst (λ f. IsAmong m (sends_of s (first_site i) (events_of f))) (sym is)
    (front_sends s (first_site i) (history_of s t ++ x ∷ []) more m
    (subst (IsAmong m) (sym (ap (sends_of s (first_site i)) (map-append (λ (x : Entry). x.event) (history_of s t) (x ∷ [])
    ∙ ap (λ es. es ++ x.event ∷ []) (Seen.events_from s (first_site t.me) t.history))
    ∙ sends-append s t.history (x.event ∷ []) (first_site i)))
    (among-right m (sends_of s (first_site i) t.history) _
    (subst (λ u. IsAmong m (sends_of s u (x.event ∷ []))) (sym (ap (λ j. after_events s (first_site j) t.history) (sym me) ∙ run))
    (subst (IsAmong m) (sym (append-nil (sent_at s t x.event))) (subst (λ e. IsAmong m (sent_at s t e)) (sym ev) h))))))

cancel : (h xs ys : List Entry) → h ++ xs ≡ h ++ ys → xs ≡ ys
cancel [] xs ys e = e
cancel (x ∷ h) xs ys e = cancel h xs ys (let a : h ++ xs ≡ h ++ ys = cc in a)

from_sent : (ms : List Message) (e : Event) (m : Message) → e ≡ Receive m → IsFrom ms e → IsAmong m ms
from_sent ms e m is h = subst (IsFrom ms) is h

-- a recorded event stays within the prefixes
within_event : (s : Settings) (hs fronts : List (List Entry)) (w : World) (e : WorldEvent) (es : List WorldEvent)
    → ((i : ℕ) (h : List Entry) → slice_get hs i ≡ Some h → IsCut s fronts i h)
    → histories_of s (world_after_all s (world_after s w e) es) ≡ hs
    → IsRecorded s w e → IsWithinFronts s fronts w → IsWithinFronts s fronts (world_after s w e)
within_event s hs fronts w e es cut gives r g = subst (IsWithinFronts s fronts) (sym r.is) (record { sites = sites; sent = sent })
  where
    i : ℕ
    i = site_of e

    t : ModelSite
    t = r.site

    x : Entry
    x = record { event = r.event; reply = reply_to s t r.event }

    t1 : ModelSite
    t1 = after_event s t r.event

    at1 : slice_get (world_after s w e).sites i ≡ Some t1
    at1 = ap (λ (v : World). slice_get v.sites i) r.is ∙ get_set_same w.sites i t t1 r.at

    last : Later (world_after_all s (world_after s w e) es) i t1
    last = Recorded.later_all s es (world_after s w e) i t1 at1

    old : IsWithinFront s fronts i t
    old = g.sites i t r.at

    grown : history_of s t1 ≡ history_of s t ++ x ∷ []
    grown = Seen.history-noted s t r.event r.room old.run

    -- the site's history in the end, and what comes after this entry
    whole : List Entry
    whole = history_of s last.site

    later : List Entry
    later = with_replies s t1 last.more

    longer : whole ≡ history_of s t1 ++ later
    longer = Seen.history-grown s t1 last.site last.more last.me last.longer (Runs.run_goes_on s t r.event old.run)

    there : slice_get hs i ≡ Some whole
    there = ap (λ ks. slice_get ks i) (sym gives) ∙ slice_get-map (history_of s) (world_after_all s (world_after s w e) es).sites i
        ∙ ap (option_map (history_of s)) last.at

    c : IsCut s fronts i whole
    c = cut i whole there

    same : c.front ≡ old.front
    same = at (slice_get fronts i) c.there old.there
      where
        at : (o : Option (List Entry)) → o ≡ Some c.front → o ≡ Some old.front → c.front ≡ old.front
        at o p q = cc

    left : old.more ++ c.rest ≡ x ∷ later
    left = cancel (history_of s t) (old.more ++ c.rest) (x ∷ later)
        (sym (append_assoc (history_of s t) old.more c.rest) ∙ ap (λ f. f ++ c.rest) (sym old.goes_on ∙ sym same) ∙ sym c.goes_on
        ∙ longer ∙ ap (λ h. h ++ later) grown ∙ append_assoc (history_of s t) (x ∷ []) later)

    -- the new entry is in the prefix
    in_front : (more rest : List Entry) → more ++ rest ≡ x ∷ later → IsBlocked s fronts rest → (more' : List Entry) × (more ≡ x ∷ more')
    in_front (y ∷ more) rest e b = (more, let a : y ∷ more ≡ x ∷ more = (let q : y ≡ x = cc in ap (λ z. z ∷ more) q) in a)
    in_front [] [] e b = cc
    in_front [] (y ∷ rest) e (m, is, unsent) =
        let q : y ≡ x = cc in
        let ev : r.event ≡ Receive m = ap (λ (z : Entry). z.event) (sym q) ∙ is in
        let (j, f, at, among) = g.sent m (from_sent w.messages r.event m ev r.source) in
        absurd (unsent j f at among)

    next : (more' : List Entry) × (old.more ≡ x ∷ more')
    next = in_front old.more c.rest left c.blocked

    front_is : old.front ≡ (history_of s t ++ x ∷ []) ++ next.0
    front_is = old.goes_on ∙ ap (λ m. history_of s t ++ m) next.1 ∙ sym (append_assoc (history_of s t) (x ∷ []) next.0)

    here : IsWithinFront s fronts i t1
    here = record {
      me = Recorded.me_after s t r.event ∙ old.me;
      run = Runs.run_goes_on s t r.event old.run;
      front = old.front;
      there = old.there;
      more = next.0;
      goes_on = front_is ∙ ap (λ h. h ++ next.0) (sym grown);
    }

    sites : (j : ℕ) (u : ModelSite) → slice_get (slice_set w.sites i t1) j ≡ Some u → IsWithinFront s fronts j u
    sites j u h = elim (same_number i j) [
      | inl q ↦
          let k : Some t1 ≡ Some u = sym (get_set_same w.sites i t t1 r.at) ∙ ap (slice_get (slice_set w.sites i t1)) (sym q) ∙ h in
          subst (λ n. IsWithinFront s fronts n u) (sym q) (subst (IsWithinFront s fronts i) (let a : t1 ≡ u = cc in a) here)
      | inr ne ↦ g.sites j u (sym (get_set_other w.sites i j t1 ne) ∙ h)
    ]

    sent : (m : Message) → IsAmong m (w.messages ++ sent_at s t r.event) →
        (j : ℕ) × (f : List Entry) × (slice_get fronts j ≡ Some f) × IsAmong m (sends_of s (first_site j) (events_of f))
    sent m h = elim (among-cases m w.messages (sent_at s t r.event) h) [
      | inl k ↦ g.sent m k
      | inr k ↦ (i, old.front, old.there, sent_in_front s t t1 i r.event x old.front next.0 m old.me old.run refl front_is k)
    ]

within_all : (s : Settings) (hs fronts : List (List Entry)) (es : List WorldEvent) (w : World)
    → ((i : ℕ) (h : List Entry) → slice_get hs i ≡ Some h → IsCut s fronts i h)
    → AreOwn es → histories_of s (world_after_all s w es) ≡ hs → IsWithinFronts s fronts w →
    IsWithinFronts s fronts (world_after_all s w es)
within_all s hs fronts [] w cut own gives g = g
within_all s hs fronts (e ∷ es) w cut own gives g =
    let owns : AreOwn (e ∷ []) × AreOwn es = Recorded.split_own e es own in
    within_all s hs fronts es (world_after s w e) cut owns.1 gives (elim (Members.bool_cases (is_recorded s w e)) [
      | inl h ↦ within_event s hs fronts w e es cut gives (Recorded.is_recorded_event s w e owns.0 h) g
      | inr h ↦ subst (IsWithinFronts s fronts) (sym (Runs.unrecorded s w e h)) g
    ])

-- of the sites before any event, numbered on from any number, each place has the one of its number
pub first_sites : (a n i : ℕ) (t : ModelSite) → slice_get (map first_site (range_with_len a n)) i ≡ Some t → t ≡ first_site (a + i)
first_sites a zero i t h = cc
first_sites a (suc n) zero t h = let e : t ≡ first_site a = cc in e ∙ ap first_site (let q : a ≡ a + 0 = omega arith in q)
first_sites a (suc n) (suc i) t h = first_sites (a + 1) n i t h ∙ ap first_site (let q : (a + 1) + i ≡ a + suc i = omega arith in q)

-- each site's history ends where its prefix does
ends_at_front : (s : Settings) (hs fronts : List (List Entry)) (w : World) (i : ℕ) (h : List Entry) → IsWithinFronts s fronts w →
    histories_of s w ≡ hs → IsCut s fronts i h → slice_get hs i ≡ Some h → slice_get fronts i ≡ Some h
ends_at_front s hs fronts w i h g gives c at = by (slice_get w.sites i) refl (sym (slice_get-map (history_of s) w.sites i)
    ∙ ap (λ ks. slice_get ks i) gives ∙ at)
  where
    nothing : (front h more rest : List Entry) → front ≡ h ++ more → h ≡ front ++ rest → rest ≡ []
    nothing front h more rest e k = empty more rest (cancel h (more ++ rest) [] (sym (append_assoc h more rest)
        ∙ ap (λ f. f ++ rest) (sym e) ∙ sym k ∙ sym (append-nil h)))
      where
        empty : (xs ys : List Entry) → xs ++ ys ≡ [] → ys ≡ []
        empty [] ys e = e
        empty (x ∷ xs) ys e = cc

    by : (o : Option ModelSite) → slice_get w.sites i ≡ o → option_map (history_of s) o ≡ Some h → slice_get fronts i ≡ Some h
    by None e k = cc
    by (Some t) e k =
        let old : IsWithinFront s fronts i t = g.sites i t e in
        let is : history_of s t ≡ h = cc in
        let same : c.front ≡ old.front = both (slice_get fronts i) c.there old.there in
        let none : c.rest ≡ [] = nothing c.front h old.more c.rest (same ∙ old.goes_on ∙ ap (λ k. k ++ old.more) is) c.goes_on in
        c.there ∙ ap Some (sym (c.goes_on ∙ ap (λ r. c.front ++ r) none ∙ append-nil c.front))
      where
        both : (o : Option (List Entry)) → o ≡ Some c.front → o ≡ Some (g.sites i t e).front → c.front ≡ (g.sites i t e).front
        both o p q = cc

-- a prefix for each site
abbrev HasFronts : Settings → List (List Entry) → Type 0
HasFronts s fronts = (i : ℕ) (t : ModelSite) → slice_get (first_world s).sites i ≡ Some t → (f : List Entry) × (slice_get fronts i ≡ Some f)

first_within : (s : Settings) (fronts : List (List Entry)) → HasFronts s fronts → IsWithinFronts s fronts (first_world s)
first_within s fronts has = record {
  sites = λ i t h.
      let e : t ≡ first_site i = first_sites 0 s.sites i t h ∙ ap first_site (let q : 0 + i ≡ i = omega arith in q) in
      let (f, there) = has i t h in
      subst (IsWithinFront s fronts i) (sym e) (record { me = refl; run = refl; front = f; there = there; more = f; goes_on = refl });
  sent = λ m h. elim h [ ];
}

-- stuck histories are not one world's
pub stuck_final : StuckIsFinal
stuck_final s hs fronts stuck one =
    stuck.left (ends_at_front s hs fronts (world_of_run s one.events) stuck.site stuck.history
    (within_all s hs fronts one.events (first_world s) stuck.cut one.own one.gives (first_within s fronts has))
    one.gives (stuck.cut stuck.site stuck.history stuck.at) stuck.at)
  where
    has : HasFronts s fronts
    has i t at =
        let last : Later (world_of_run s one.events) i t = Recorded.later_all s one.events (first_world s) i t at in
        let there : slice_get hs i ≡ Some (history_of s last.site) = ap (λ ks. slice_get ks i) (sym one.gives)
        ∙ slice_get-map (history_of s) (world_of_run s one.events).sites i ∙ ap (option_map (history_of s)) last.at in
        let c : IsCut s fronts i (history_of s last.site) = stuck.cut i (history_of s last.site) there in
        (c.front, c.there)
