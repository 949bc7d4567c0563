-- How many sites a world has, and some steps of a site that crashes, and then others.
use Rattle.std.proofs.Common.{◌≡◌, ◌≤◌, ℕ, List, [], ◌∷◌, ◌++◌, length, Option, Some, None, refl, sym, ap, subst, ◌∙◌}
use Rattle.std.specs.Prelude.{option_map, slice_get}
use Rattle.std.proofs.lemmas.List.{length-set}
use Rattle.std.proofs.lemmas.List.FromFn.{length-map-range_with_len}
use Rattle.rb_money.specs.Settings.{Settings}
use Rattle.rb_money.specs.declared.limits.TheConstants.{MOST_SITES}
use Rattle.rb_site.specs.declared.event.Event.{Event}
use Rattle.rb_site.specs.declared.event.Event.TheVariants.{Receive}
use Rattle.rb_site.specs.declared.world_event.WorldEvent.{WorldEvent}
use Rattle.rb_site.specs.declared.world_event.WorldEvent.TheVariants.{At, Deliver}
use Rattle.rb_site.specs.Events.{ModelSite, after_event, first_site}
use Rattle.rb_site.specs.Worlds.{World, first_world, message_at, world_after, world_after_all, world_at, world_of_run}
use Rattle.rb_world.specs.Crashes.{DiskSite, DiskStep, MayAllHappen, after_step, after_steps}
use Rattle.rb_world.specs.Laws.{IsRunOf, SeenWorld}

same_at : (s : Settings) (w : World) (i : ℕ) (o : Option Event) (t : Option ModelSite) → length (world_at s w i o t).sites ≡ length w.sites
same_at s w i None t = refl
same_at s w i (Some e) None = refl
same_at s w i (Some e) (Some t) = length-set w.sites i (after_event s t e)

same_after : (s : Settings) (w : World) (e : WorldEvent) → length (world_after s w e).sites ≡ length w.sites
same_after s w (At i e) = same_at s w i (Some e) (slice_get w.sites i)
same_after s w (Deliver i k) = same_at s w i (option_map Receive (message_at w.messages k)) (slice_get w.sites i)

same_after_all : (s : Settings) (es : List WorldEvent) (w : World) → length (world_after_all s w es).sites ≡ length w.sites
same_after_all s [] w = refl
same_after_all s (e ∷ es) w = same_after_all s es (world_after s w e) ∙ same_after s w e

-- a run has as many sites as its configuration
pub sites_of_run : (s : Settings) (es : List WorldEvent) → length (world_of_run s es).sites ≡ s.sites
sites_of_run s es = same_after_all s es (first_world s) ∙ length-map-range_with_len first_site 0 s.sites

-- so a world has few sites
pub few_sites : (w : SeenWorld) → IsRunOf w → length w.world.sites ≤ MOST_SITES
few_sites w run =
    subst (λ n. n ≤ MOST_SITES) (sym (ap (λ (v : World). length v.sites) run.is ∙ sites_of_run w.settings w.events)) run.few_sites

-- the site after some steps, and then others
pub after_both : (s : Settings) (d : DiskSite) (xs ys : List DiskStep) → after_steps s d (xs ++ ys) ≡ after_steps s (after_steps s d xs) ys
after_both s d [] ys = refl
after_both s d (x ∷ xs) ys = after_both s (after_step s d x) xs ys

-- both lists of steps may happen, the others after the first
pub both_may : (s : Settings) (d : DiskSite) (xs ys : List DiskStep) → MayAllHappen s d xs → MayAllHappen s (after_steps s d xs) ys
    → MayAllHappen s d (xs ++ ys)
both_may s d [] ys first later = later
both_may s d (x ∷ xs) ys first later = (first.0, both_may s (after_step s d x) xs ys first.1 later)
