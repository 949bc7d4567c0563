-- A site keeps all that it has reported.
use Rattle.std.proofs.Common.{◌≡◌, ℕ, ◌≤◌, true, false, cond, List, [], ◌∷◌, ◌++◌, length, take, drop, refl, ap, sym, ◌∙◌}
use Rattle.std.proofs.Common.{zero, suc, arith, inl, inr, Some}
use Rattle.std.specs.Prelude.{nat_le, slice_get}
use Rattle.std.proofs.lemmas.List.{take-append-drop, take-append-le, take-take}
use Rattle.rb_money.specs.Settings.{Settings}
use Rattle.rb_site.specs.declared.event.Event.{Event}
use Rattle.rb_site.specs.declared.event.Event.TheVariants.{Receive}
use Rattle.rb_site.specs.Events.{ModelSite, after_event, first_site, reply_to, sent_at}
use Rattle.rb_site.specs.Seen.{entry}
use Rattle.rb_site.proofs.Public.Places as Sets
use Rattle.rb_site.proofs.Public.Places.{same_number}
use Rattle.rb_world.specs.Crashes.{Acts, DiskSite, DiskStep, Goes, Leads, MayHappenAlone, Receives, Reports, Restarts, Stays}
use Rattle.rb_world.specs.Crashes.{Syncs, TakesStep, after_step}
use Rattle.rb_world.specs.CrashLaws.{EventReport, IsBounded, IsKeptAt, reported_at, reports_at, reports_of}
use Rattle.rb_world.proofs.Cuts
use Rattle.rb_world.proofs.Cuts.{IsSafe}

-- a later site has the events that the first one had reported, and has reported as many
record Keeps (d later : DiskSite) : Type 0 where
  more : d.reported ≤ later.reported
  same : take d.reported later.events ≡ take d.reported d.events

keeps_all : (d : DiskSite) → Keeps d d
keeps_all d = record { more = omega arith; same = refl }

keeps_on : (a b c : DiskSite) → Keeps a b → Keeps b c → Keeps a c
keeps_on a b c h k = record {
  more = omega arith;
  same = cc (take-take a.reported b.reported c.events h.more, take-take a.reported b.reported b.events h.more);
}

-- ---- steps

records : (s : Settings) (d : DiskSite) (e : Event) → IsBounded s d →
    Keeps d (cond (nat_le s.limits.history (length d.events)) d (record d { events = d.events ++ e ∷ [] }))
records s d e o = elim (nat_le s.limits.history (length d.events)) as (λ b. Keeps d (cond b d (record d { events = d.events ++ e ∷ [] }))) [
  | true ↦ keeps_all d
  | false ↦ record { more = omega arith; same = take-append-le d.reported d.events (e ∷ []) (omega arith) }
]

step_keeps : (s : Settings) (d : DiskSite) (step : DiskStep) → IsBounded s d → MayHappenAlone d step → Keeps d (after_step s d step)
step_keeps s d (Acts e) o may = records s d e o
step_keeps s d (Receives m) o may = records s d (Receive m) o
step_keeps s d (Syncs n) o (least, most) = record { more = omega arith; same = refl }
step_keeps s d (Reports n) o (least, most) = record { more = least; same = refl }
step_keeps s d (Restarts n) o (least, most) = record { more = omega arith; same = take-take d.reported n d.events (omega arith) }

-- the site of the number i keeps what it had reported
record RemainsAt (i : ℕ) (d : DiskSite) (w : List DiskSite) : Type 0 where
  site : DiskSite
  at : slice_get w i ≡ Some site
  keeps : Keeps d site

next_remains : (s : Settings) (w v : List DiskSite) (i : ℕ) (d : DiskSite) → TakesStep s w v → IsSafe s w → slice_get w i ≡ Some d →
    RemainsAt i d v
next_remains s w v i d t g at = rw t.is (elim (same_number t.number i) [
  | inl q ↦ (let is : d ≡ t.site = cc (t.at, q, at) in
      let keeps = step_keeps s t.site t.step (g.order t.number t.site t.at) t.may in
      record {
        site = after_step s t.site t.step;
        at = cc (Sets.get_set_same w t.number t.site (after_step s t.site t.step) t.at, q);
        keeps = rw is keeps;
      })
  | inr ne ↦ record { site = d; at = cc (Sets.get_set_other w t.number i (after_step s t.site t.step) ne, at); keeps = keeps_all d }
])

remains : (s : Settings) (w v : List DiskSite) (i : ℕ) (d : DiskSite) → Leads s w v → IsSafe s w → slice_get w i ≡ Some d → RemainsAt i d v
remains s w v i d Stays g at = record { site = d; at = at; keeps = keeps_all d }
remains s w v i d (Goes {v = u} t more) g at =
    let one : RemainsAt i d u = next_remains s w u i d t g at in
    let rest : RemainsAt i one.site v = remains s u v i one.site more (Cuts.next_safe s w u t g) one.at in
    record { site = rest.site; at = rest.at; keeps = keeps_on d one.site rest.site one.keeps rest.keeps }

-- ---- reports

reports-take : (s : Settings) (n : ℕ) (es : List Event) (t : ModelSite) → reports_of s t (take n es) ≡ take n (reports_of s t es)
reports-take s zero es t = refl
reports-take s (suc n) [] t = refl
reports-take s (suc n) (e ∷ es) t =
    ap (λ (rs : List EventReport). (record { entry = entry e (reply_to s t e); sends = sent_at s t e }) ∷ rs)
    (reports-take s n es (after_event s t e))

-- what a site had reported is a prefix of its later history, and of its later reports
pub kept_at : (s : Settings) (w v : List DiskSite) (i : ℕ) (d : DiskSite) → Leads s w v → IsSafe s w → slice_get w i ≡ Some d →
    IsKeptAt s i d v
kept_at s w v i d led g at =
    let r = remains s w v i d led g at in
    let n = d.reported in
    let all = reports_at s i r.site in
    let now = reported_at s i r.site in
    let same : reported_at s i d ≡ take n all = sym (reports-take s n d.events (first_site i))
    ∙ ap (reports_of s (first_site i)) (sym r.keeps.same) ∙ reports-take s n r.site.events (first_site i) in
    record {
      site = r.site;
      at = r.at;
      history = (drop n all, sym (take-append-drop n all) ∙ ap (λ rs. rs ++ drop n all) (sym same));
      reported = (
        drop n now,
        sym (take-append-drop n now) ∙ ap (λ rs. rs ++ drop n now) (sym (same ∙ sym (take-take n r.site.reported all r.keeps.more))),
      );
    }
