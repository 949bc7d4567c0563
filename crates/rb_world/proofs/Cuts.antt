-- Whatever sites lose after what they reported, the rest of their histories is one world's. So a crash, which leaves
-- such a rest, keeps this, and an event more is brought to the world of the rest before it: its message, if any, was
-- reported, so it is there.
use Rattle.std.proofs.Common.{◌≡◌, ℕ, suc, ◌+◌, ◌<◌, ◌≤◌, cond, List, [], ◌∷◌, ◌++◌, length, take, drop, refl, sym}
use Rattle.std.proofs.Common.{subst, ◌∙◌, arith, inl, inr, Some, zero-add}
use Rattle.std.specs.Prelude.{map, nat_le, slice_get, slice_set}
use Rattle.std.specs.List.{range_with_len}
use Rattle.std.proofs.lemmas.Bool.Decides.{nat_tests}
use Rattle.std.proofs.lemmas.List.{length-append, length-replicate, length-set, length-take-le, take-append-drop, take-append-le}
use Rattle.std.proofs.lemmas.List.{take_all, take-take}
use Rattle.std.proofs.lemmas.Option.{slice_get_within}
use Rattle.std.proofs.Math.Seq.{take-nil}
use Rattle.rb_money.specs.Settings.{Settings}
use Rattle.rb_shadow.proofs.Public.Members
use Rattle.rb_site.specs.declared.event.Event.{Event}
use Rattle.rb_site.specs.declared.event.Event.TheVariants.{Receive}
use Rattle.rb_site.specs.declared.message.Message.{Message}
use Rattle.rb_site.specs.Events.{after_events, first_site}
use Rattle.rb_site.specs.Histories.{sends_of}
use Rattle.rb_site.specs.Worlds.{world_of_run}
use Rattle.rb_site.proofs.Public.Places as Sets
use Rattle.rb_site.proofs.Public.Places.{same_number}
use Rattle.rb_site.proofs.Public.Stuck
use Rattle.rb_world.specs.Crashes.{Acts, DiskSite, DiskStep, Goes, IsSent, Leads, MayHappenAlone, Receives, Reports}
use Rattle.rb_world.specs.Crashes.{Restarts, Stays, Syncs, TakesStep, WasReported, after_step, first_disks, sites_from}
use Rattle.rb_world.specs.CrashLaws.{IsBounded, IsWorldOf}
use Rattle.rb_world.proofs.Grown
use Rattle.rb_world.proofs.Grown.{Brings}
use Rattle.rb_world.proofs.Places

-- ---- what crashes may leave

-- the second site has first events of the first one, and no fewer than those that it reported
pub record IsCutTo (d c : DiskSite) : Type 0 where
  pub count : ℕ
  pub least : d.reported ≤ count
  pub most : count ≤ length d.events
  pub is : c.events ≡ take count d.events

-- the same of each site
pub record AreCuts (w c : List DiskSite) : Type 0 where
  pub sites : length c ≡ length w
  pub each : (i : ℕ) (d b : DiskSite) → slice_get w i ≡ Some d → slice_get c i ≡ Some b → IsCutTo d b

-- the invariant: the sites' numbers are in order, and whatever crashes may leave of them is a world's
pub record IsSafe (s : Settings) (w : List DiskSite) : Type 0 where
  pub order : (i : ℕ) (d : DiskSite) → slice_get w i ≡ Some d → IsBounded s d
  pub cuts : (c : List DiskSite) → AreCuts w c → IsWorldOf s c

-- a site that loses nothing
whole : (d : DiskSite) → d.reported ≤ length d.events → IsCutTo d d
whole d h = record { count = length d.events; least = h; most = omega arith; is = sym (take_all (length d.events) d.events (omega arith)) }

-- the sites themselves are a world's, as nothing need be lost
pub itself : (s : Settings) (w : List DiskSite) → IsSafe s w → IsWorldOf s w
itself s w g = g.cuts w (record {
  sites = refl;
  each = λ i d b at here. (let same : b ≡ d = cc (at, here) in rw same (whole d (omega (arith, g.order i d at))));
})

-- each reported message is sent by the sites that are left
reported_sent : (s : Settings) (w c : List DiskSite) (m : Message) → AreCuts w c → WasReported s w (Receives m) → IsSent s c m
reported_sent s w c m h (i, d, at, sent) =
    let (b, there) = Places.item_at c i (omega (arith, h.sites, slice_get_within w i d at)) in
    let cut = h.each i d b at there in
    let n = d.reported in
    let t = first_site i in
    let same : take n b.events ≡ take n d.events = cc (cut.is, take-take n cut.count d.events cut.least) in
    let first = Stuck.among-left m (sends_of s t (take n b.events)) (sends_of s (after_events s t (take n b.events)) (drop n b.events))
    (rw same sent) in
    let all = rw (← Stuck.sends-append s (take n b.events) (drop n b.events) t) at first in
    record { number = i; site = b; at = there; sent = rw take-append-drop at all }

-- ---- the start

empty_sites : (s : Settings) (a : ℕ) (c : List DiskSite) → ((i : ℕ) (b : DiskSite) → slice_get c i ≡ Some b → b.events ≡ []) →
    map first_site (range_with_len a (length c)) ≡ sites_from s a c
empty_sites s a [] h = refl
empty_sites s a (b ∷ c) h = cc (empty_sites s (a + 1) c (λ i. h (suc i)), h 0 b refl)

-- before any event
pub first_safe : (s : Settings) → IsSafe s (first_disks s)
first_safe s = record {
  order = λ i d at. rw (Places.get_replicate s.sites i none d at)
      (record { reported = omega arith; on_disk = omega arith; within = omega arith });
  cuts = λ c h. record {
    events = [];
    own = tt;
    sites = cc (h.sites, length-replicate s.sites none, empty_sites s 0 c (empty c h));
    sent = λ m. (λ k. absurd k, λ r. rw (empty c h r.number r.site r.at) at r.sent);
  };
}
  where
    none : DiskSite
    none = record { events = []; on_disk = 0; reported = 0 }

    empty : (c : List DiskSite) → AreCuts (first_disks s) c → (i : ℕ) (b : DiskSite) → slice_get c i ≡ Some b → b.events ≡ []
    empty c h i b at =
        let (d, there) = Places.item_at (first_disks s) i (omega (arith, h.sites, slice_get_within c i b at)) in
        let cut = h.each i d b there at in
        cc (cut.is, Places.get_replicate s.sites i none d there, take-nil {A = Event} cut.count)

-- ---- one site changes

-- cuts of the new sites with another site put in place are cuts of the old ones
cuts_set : (w c : List DiskSite) (i : ℕ) (d new a b : DiskSite) → slice_get w i ≡ Some d → slice_get c i ≡ Some a →
    AreCuts (slice_set w i new) c → IsCutTo d b → AreCuts w (slice_set c i b)
cuts_set w c i d new a b at there h cut = record {
  sites = length-set c i b ∙ h.sites ∙ length-set w i new;
  each = λ j f y old now. Places.each_set c i a b (λ j y. slice_get w j ≡ Some f → IsCutTo f y) there
      (λ old. (let same : f ≡ d = cc (at, old) in rw same cut))
      (λ j y ne now old. h.each j f y (cc (Sets.get_set_other w i j new ne, old)) now) j y now old;
}

-- what is left of the site i
record IsLeftAt (w c : List DiskSite) (i : ℕ) (new : DiskSite) : Type 0 where
  site : DiskSite
  at : slice_get c i ≡ Some site
  cut : IsCutTo new site

left_at : (w c : List DiskSite) (i : ℕ) (d new : DiskSite) → slice_get w i ≡ Some d → AreCuts (slice_set w i new) c → IsLeftAt w c i new
left_at w c i d new at h =
    let here = Sets.get_set_same w i d new at in
    let (a, there) = Places.item_at c i (omega (arith, h.sites, slice_get_within (slice_set w i new) i new here)) in
    record { site = a; at = there; cut = h.each i new a here there }

-- a site of which crashes may leave no more than before
quiet : (s : Settings) (w : List DiskSite) (i : ℕ) (d new : DiskSite) → slice_get w i ≡ Some d → IsSafe s w → IsBounded s new →
    ((b : DiskSite) → IsCutTo new b → IsCutTo d b) → IsSafe s (slice_set w i new)
quiet s w i d new at g here fewer = record {
  order = Places.each_set w i d new (λ j f. IsBounded s f) at here (λ j f ne. g.order j f);
  cuts = λ c h. (let l = left_at w c i d new at h in
      rw (Places.set_same c i l.site l.at) at
      (g.cuts (slice_set c i l.site) (cuts_set w c i d new l.site l.site at l.at h (fewer l.site l.cut))));
}

-- ---- one event more

-- an event that may come wherever crashes leave all that was reported
abbrev MayCome : Settings → List DiskSite → ℕ → DiskSite → Event → Type 0
MayCome s w i d e = (c : List DiskSite) → AreCuts w c → (x : IsWorldOf s c) → slice_get c i ≡ Some d →
    Brings s (world_of_run s x.events) i (after_events s (first_site i) d.events) e

-- the site with the event
abbrev longer_by : DiskSite → Event → DiskSite
longer_by d e = record d { events = d.events ++ e ∷ [] }

more_safe : (s : Settings) (w : List DiskSite) (i : ℕ) (d : DiskSite) (e : Event) → slice_get w i ≡ Some d → IsSafe s w →
    length d.events < s.limits.history → MayCome s w i d e → IsSafe s (slice_set w i (longer_by d e))
more_safe s w i d e at g free come = record {
  order = Places.each_set w i d new (λ j f. IsBounded s f) at here (λ j f ne. g.order j f);
  cuts = λ c h. (let l = left_at w c i d new at h in
      elim (Members.bool_cases (nat_le l.cut.count (length d.events))) [
        | inl q ↦ without c h l (grind (arith, nat_tests))
        | inr q ↦ with c h l (grind (arith, nat_tests))
      ]);
}
  where
    new : DiskSite
    new = longer_by d e

    longer : length (d.events ++ e ∷ []) ≡ length d.events + 1
    longer = length-append d.events (e ∷ [])

    here : IsBounded s new
    here = record { reported = (g.order i d at).reported; on_disk = omega (arith, g.order i d at, longer); within = omega (arith, longer) }

    -- the event is lost
    without : (c : List DiskSite) → AreCuts (slice_set w i new) c → (l : IsLeftAt w c i new) → l.cut.count ≤ length d.events → IsWorldOf s c
    without c h l few =
        let is = l.cut.is ∙ take-append-le l.cut.count d.events (e ∷ []) few in
        rw (Places.set_same c i l.site l.at) at (g.cuts (slice_set c i l.site) (cuts_set w c i d new l.site l.site at l.at h
        (record { count = l.cut.count; least = l.cut.least; most = few; is = is })))

    -- the event is left, and so is all before it
    with : (c : List DiskSite) → AreCuts (slice_set w i new) c → (l : IsLeftAt w c i new) → length d.events < l.cut.count → IsWorldOf s c
    with c h l many =
        let cuts = cuts_set w c i d new l.site d at l.at h (whole d (omega (arith, g.order i d at))) in
        let x = g.cuts (slice_set c i d) cuts in
        let there = Sets.get_set_same c i l.site d l.at in
        let all = l.cut.is ∙ take_all l.cut.count (d.events ++ e ∷ []) (omega (arith, longer)) in
        subst (IsWorldOf s) (Sets.set_set c i d l.site ∙ Places.set_same c i l.site l.at)
        (Grown.grown s i (slice_set c i d) e d l.site x there all (come (slice_set c i d) cuts x there))

-- the site in the world of what is left
site_is : (s : Settings) (c : List DiskSite) (i : ℕ) (d : DiskSite) (x : IsWorldOf s c) → slice_get c i ≡ Some d →
    slice_get (world_of_run s x.events).sites i ≡ Some (after_events s (first_site i) d.events)
site_is s c i d x at = cc (x.sites, Grown.site_at s 0 i c d at, zero-add i)

recording_safe : (s : Settings) (w : List DiskSite) (i : ℕ) (d : DiskSite) (e : Event) → slice_get w i ≡ Some d → IsSafe s w →
    MayCome s w i d e → IsSafe s (slice_set w i (cond (nat_le s.limits.history (length d.events)) d (longer_by d e)))
recording_safe s w i d e at g come = elim (Members.bool_cases (nat_le s.limits.history (length d.events))) [
  | inl q ↦ rw (q, Places.set_same w i d at) g
  | inr q ↦ rw q (more_safe s w i d e at g (grind (arith, nat_tests)) come)
]

-- ---- steps

step_safe : (s : Settings) (w : List DiskSite) (i : ℕ) (d : DiskSite) (step : DiskStep) → slice_get w i ≡ Some d → IsSafe s w →
    MayHappenAlone d step → WasReported s w step → IsSafe s (slice_set w i (after_step s d step))
step_safe s w i d (Acts e) at g own sent = recording_safe s w i d e at g
    (λ c cuts x there. Grown.brings_own s (world_of_run s x.events) i (after_events s (first_site i) d.events) e
    (site_is s c i d x there) own)
step_safe s w i d (Receives m) at g alone r = recording_safe s w i d (Receive m) at g
    (λ c cuts x there. Grown.brings_message s (world_of_run s x.events) i (after_events s (first_site i) d.events) m
    (site_is s c i d x there) ((x.sent m).1 (reported_sent s w c m cuts r)))
step_safe s w i d (Syncs n) at g (least, most) sent =
    let o = g.order i d at in
    quiet s w i d (record d { on_disk = n }) at g (record { reported = omega (arith, o); on_disk = most; within = o.within })
    (λ b cut. record { count = cut.count; least = cut.least; most = cut.most; is = cut.is })
step_safe s w i d (Reports n) at g (least, most) sent =
    let o = g.order i d at in
    quiet s w i d (record d { reported = n }) at g (record { reported = most; on_disk = o.on_disk; within = o.within })
    (λ b cut. record { count = cut.count; least = omega (arith, cut.least); most = cut.most; is = cut.is })
step_safe s w i d (Restarts n) at g (least, most) sent =
    let o = g.order i d at in
    let short = length-take-le n d.events most in
    quiet s w i d (record d { events = take n d.events; on_disk = n }) at g
    (record { reported = omega (arith, o); on_disk = omega (arith, short); within = omega (arith, o.within, short) })
    (λ b cut. let few : cut.count ≤ n = omega (arith, cut.most, short) in
    record { count = cut.count; least = cut.least; most = omega arith; is = cut.is ∙ take-take cut.count n d.events few })

-- after a step that may happen
pub next_safe : (s : Settings) (w v : List DiskSite) → TakesStep s w v → IsSafe s w → IsSafe s v
next_safe s w v t g = subst (IsSafe s) (sym t.is) (step_safe s w t.number t.site t.step t.at g t.may t.reported)

-- after any steps that may happen
pub later_safe : (s : Settings) (w v : List DiskSite) → Leads s w v → IsSafe s w → IsSafe s v
later_safe s w v Stays g = g
later_safe s w v (Goes {v = u} t more) g = later_safe s u v more (next_safe s w u t g)
