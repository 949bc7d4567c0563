-- The site after an event.
use Rattle.std.proofs.Common.{◌≡◌, Bool, true, false, cond, refl, ap}
use Rattle.rb_site.specs.declared.event.Event.{Event}
use Rattle.rb_site.specs.Events.{is_full}
use Rattle.rb_site.specs.Seen.{SeenSite, next_site, state_of, stepped}

-- no event changes the site's number
pub me-next : (x : SeenSite) (e : Event) → (next_site x e).me ≡ x.me
me-next x e = by (is_full x.settings (state_of x))
  where
    by : (b : Bool) → (cond b x (stepped x e)).me ≡ x.me
    by true = refl
    by false = refl

-- if the history isn't full, the site after an event has its entry
pub next-free : (x : SeenSite) (e : Event) → is_full x.settings (state_of x) ≡ false → next_site x e ≡ stepped x e
next-free x e free = ap (λ b. cond b x (stepped x e)) free

-- if it is full, the site stays
pub next-full : (x : SeenSite) (e : Event) → is_full x.settings (state_of x) ≡ true → next_site x e ≡ x
next-full x e full = ap (λ b. cond b x (stepped x e)) full
