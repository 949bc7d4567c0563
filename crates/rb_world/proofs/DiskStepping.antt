-- Steps, written out.
use Rattle.std.proofs.Common.{◌≡◌, ◌≢◌, ℕ, ◌<◌, false, cond, List, [], ◌∷◌, ◌++◌, length, refl, ap, ◌∙◌, arith, Some}
use Rattle.std.specs.Prelude.{nat_le, slice_get, slice_set}
use Rattle.std.proofs.lemmas.Bool.Decides.{nat_tests}
use Rattle.std.proofs.lemmas.List.{length-replicate}
use Rattle.rb_money.specs.Settings.{Settings}
use Rattle.rb_site.specs.declared.event.Event.{Event}
use Rattle.rb_site.specs.declared.event.Event.TheVariants.{Receive}
use Rattle.rb_site.specs.declared.message.Message.{Message}
use Rattle.rb_site.specs.Worlds.{IsOwn}
use Rattle.rb_site.proofs.Public.Places as Sets
use Rattle.rb_world.specs.Crashes.{Acts, DiskSite, DiskStep, Goes, Leads, MayHappenAlone, Receives, Reports, Stays}
use Rattle.rb_world.specs.Crashes.{Syncs, TakesStep, WasReported, after_step, first_disks}
use Rattle.rb_world.proofs.Places

-- a site with these events, and the numbers of those on its disk and of those reported
abbrev pub disk : ℕ → ℕ → List Event → DiskSite
disk on_disk reported es = record { events = es; on_disk = on_disk; reported = reported }

-- the site with the event, if there is spare capacity
recorded : (s : Settings) (w : List DiskSite) (i : ℕ) (d : DiskSite) (e : Event) → length d.events < s.limits.history →
    slice_set w i (record d { events = d.events ++ e ∷ [] })
    ≡ slice_set w i (cond (nat_le s.limits.history (length d.events)) d (record d { events = d.events ++ e ∷ [] }))
recorded s w i d e free = ap (λ b. slice_set w i (cond b d (record d { events = d.events ++ e ∷ [] })))
    (let test : false ≡ nat_le s.limits.history (length d.events) = grind (arith, nat_tests) in test)

-- a site has an event of its own
pub acts : (s : Settings) (w : List DiskSite) (i : ℕ) (d : DiskSite) (e : Event) → slice_get w i ≡ Some d → IsOwn e →
    length d.events < s.limits.history → TakesStep s w (slice_set w i (record d { events = d.events ++ e ∷ [] }))
acts s w i d e at own free =
    record { number = i; site = d; at = at; step = Acts e; may = own; reported = tt; is = recorded s w i d e free }

-- a message is delivered
pub receives : (s : Settings) (w : List DiskSite) (i : ℕ) (d : DiskSite) (m : Message) → slice_get w i ≡ Some d →
    WasReported s w (Receives m) → length d.events < s.limits.history →
    TakesStep s w (slice_set w i (record d { events = d.events ++ Receive m ∷ [] }))
receives s w i d m at out free =
    record { number = i; site = d; at = at; step = Receives m; may = tt; reported = out; is = recorded s w i d (Receive m) free }

-- any other step that may happen
abbrev pub takes : (s : Settings) (w : List DiskSite) (i : ℕ) (d : DiskSite) (step : DiskStep) → slice_get w i ≡ Some d →
    MayHappenAlone d step → WasReported s w step → TakesStep s w (slice_set w i (after_step s d step))
takes s w i d step at may out = record { number = i; site = d; at = at; step = step; may = may; reported = out; is = refl }

-- a site before any event
pub first_at : (s : Settings) (i : ℕ) → i < s.sites → slice_get (first_disks s) i ≡ Some (disk 0 0 [])
first_at s i h =
    let (d, there) = Places.item_at (first_disks s) i (omega (arith, length-replicate s.sites (disk 0 0 []))) in
    cc (there, Places.get_replicate s.sites i (disk 0 0 []) d there)

-- ---- the steps of one site

-- some steps lead to a world in which the site i is this one, and the others are as before any event
pub record IsReached (s : Settings) (i : ℕ) (d : DiskSite) : Type 0 where
  pub world : List DiskSite
  pub led : Leads s (first_disks s) world
  pub at : slice_get world i ≡ Some d
  pub others : (j : ℕ) → j ≢ i → slice_get world j ≡ slice_get (first_disks s) j

-- one step more
pub goes_on : (s : Settings) (u v w : List DiskSite) → Leads s u v → TakesStep s v w → Leads s u w
goes_on s u v w Stays t = Goes t Stays
goes_on s u v w (Goes {v = x} first more) t = Goes first (goes_on s x v w more t)

next_reached : (s : Settings) (i : ℕ) (d new : DiskSite) → IsReached s i d →
    ((w : List DiskSite) → slice_get w i ≡ Some d → TakesStep s w (slice_set w i new)) → IsReached s i new
next_reached s i d new r step = record {
  world = slice_set r.world i new;
  led = goes_on s (first_disks s) r.world (slice_set r.world i new) r.led (step r.world r.at);
  at = Sets.get_set_same r.world i d new r.at;
  others = λ j ne. Sets.get_set_other r.world i j new ne ∙ r.others j ne;
}

-- before any event
pub first_reached : (s : Settings) (i : ℕ) → i < s.sites → IsReached s i (disk 0 0 [])
first_reached s i h = record { world = first_disks s; led = Stays; at = first_at s i h; others = λ j ne. refl }

-- the site has an event more of its own
pub acted : (s : Settings) (i : ℕ) (d : DiskSite) (e : Event) → IsOwn e → length d.events < s.limits.history → IsReached s i d →
    IsReached s i (record d { events = d.events ++ e ∷ [] })
acted s i d e own free r =
    next_reached s i d (record d { events = d.events ++ e ∷ [] }) r (λ w at. acts s w i d e at own free)

-- its first event is written and reported
pub first_reported : (s : Settings) (i : ℕ) (e : Event) (es : List Event) → IsReached s i (disk 0 0 (e ∷ es)) →
    IsReached s i (disk 1 1 (e ∷ es))
first_reported s i e es r =
    next_reached s i (disk 1 0 (e ∷ es)) (disk 1 1 (e ∷ es))
    (next_reached s i (disk 0 0 (e ∷ es)) (disk 1 0 (e ∷ es)) r
    (λ w at. takes s w i (disk 0 0 (e ∷ es)) (Syncs 1) at (omega arith, omega arith) tt))
    (λ w at. takes s w i (disk 1 0 (e ∷ es)) (Reports 1) at (omega arith, omega arith) tt)
