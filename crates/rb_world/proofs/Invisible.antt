-- The sites' histories are one world's.
use Rattle.std.proofs.Common.{◌≡◌, ℕ, suc, ◌+◌, ◌≤◌, List, [], ◌∷◌, length, refl, ap, ◌∙◌, arith, Some}
use Rattle.std.specs.Prelude.{map, slice_get}
use Rattle.rb_money.specs.Settings.{Settings}
use Rattle.rb_site.specs.declared.event.Event.{Event}
use Rattle.rb_site.specs.Events.{after_events, first_site}
use Rattle.rb_site.specs.Histories.{history_of, with_replies}
use Rattle.rb_site.proofs.Public.Seen
use Rattle.rb_world.specs.Crashes.{DiskSite, Leads, first_disks, histories_from, sites_from}
use Rattle.rb_world.specs.CrashLaws.{HidesCrashes}
use Rattle.rb_world.proofs.Cuts
use Rattle.rb_world.proofs.Cuts.{IsSafe}

-- if steps lead, the sites are in order, and whatever crashes may leave is a world's
pub safe : (s : Settings) (w : List DiskSite) → Leads s (first_disks s) w → IsSafe s w
safe s w led = Cuts.later_safe s (first_disks s) w led (Cuts.first_safe s)

-- the history of a site that ran these events has just them
history_is : (s : Settings) (i : ℕ) (es : List Event) → length es ≤ s.limits.history →
    history_of s (after_events s (first_site i) es) ≡ with_replies s (first_site i) es
history_is s i es within =
    ap (λ me. with_replies s (first_site me) (after_events s (first_site i) es).history) (Seen.me_of_run s (first_site i) es)
    ∙ ap (with_replies s (first_site i)) (Seen.history_of_run s (first_site i) es (omega arith))

histories_are : (s : Settings) (i : ℕ) (w : List DiskSite) →
    ((k : ℕ) (d : DiskSite) → slice_get w k ≡ Some d → length d.events ≤ s.limits.history) →
    map (history_of s) (sites_from s i w) ≡ histories_from s i w
histories_are s i [] within = refl
histories_are s i (d ∷ w) within =
    ap (λ h. h ∷ map (history_of s) (sites_from s (i + 1) w)) (history_is s i d.events (within 0 d refl))
    ∙ ap (λ hs. with_replies s (first_site i) d.events ∷ hs) (histories_are s (i + 1) w (λ k. within (suc k)))

-- the histories are those of a world in which nothing crashed
pub one_world : (s : Settings) (w : List DiskSite) → IsSafe s w → HidesCrashes s w
one_world s w g =
    let x = Cuts.itself s w g in
    record {
      events = x.events;
      own = x.own;
      gives = ap (map (history_of s)) x.sites ∙ histories_are s 0 w (λ k d at. (g.order k d at).within);
    }
