-- Steps of single sites, interleaved.
use Rattle.std.proofs.Common.{◌≡◌, ℕ, cond, List, [], ◌∷◌, refl, sym, ap, subst, ◌∙◌, Option, Some, None, inl, inr}
use Rattle.std.specs.Prelude.{◌≢◌, ◌==◌, slice_get, slice_set}
use Rattle.std.proofs.lemmas.Bool.{eq-eqb, eqb-true}
use Rattle.rb_money.specs.Settings.{Settings}
use Rattle.rb_shadow.proofs.Public.Members
use Rattle.rb_world.specs.Crashes.{DiskSite, Goes, Leads, MayAllHappen, MayHappenAlone, Stays, TakesStep}
use Rattle.rb_world.specs.Crashes.{WasReported, after_step}
use Rattle.rb_world.specs.Interleaved.{AreReportedBefore, InterleavedStepsLead, MayHappenApart, StepAt, steps_at}
use Rattle.rb_world.specs.Interleaved.{with_step, world_after_steps}
use Rattle.rb_world.proofs.Places

-- a step is among those of its own site
own_step : (s : Settings) (d : DiskSite) (x : StepAt) (xs : List StepAt) → MayAllHappen s d (steps_at x.number (x ∷ xs))
    → MayHappenAlone d x.step × MayAllHappen s (after_step s d x.step) (steps_at x.number xs)
own_step s d x xs all = subst (λ b. MayAllHappen s d (cond b (x.step ∷ steps_at x.number xs) (steps_at x.number xs)))
    (eq-eqb x.number x.number refl) all

-- and not among those of another
other_step : (s : Settings) (d : DiskSite) (i : ℕ) (x : StepAt) (xs : List StepAt) → i ≢ x.number → MayAllHappen s d (steps_at i (x ∷ xs))
    → MayAllHappen s d (steps_at i xs)
other_step s d i x xs apart all = elim (Members.bool_cases (x.number == i)) [
  | inl q ↦ absurd (apart (sym (eqb-true x.number i q)))
  | inr q ↦ rw q at all
]

-- after a step of one site the others are as they were
after_one : (s : Settings) (w : List DiskSite) (x : StepAt) (xs : List StepAt) (d : DiskSite) → slice_get w x.number ≡ Some d
    → MayHappenApart s w (x ∷ xs) → MayHappenApart s (slice_set w x.number (after_step s d x.step)) xs
after_one s w x xs d at apart = Places.each_set w x.number d (after_step s d x.step) (λ i e. MayAllHappen s e (steps_at i xs)) at
    (own_step s d x xs (apart x.number d at)).1 (λ i e ne there. other_step s e i x xs ne (apart i e there))

-- at a number without a site nothing happens
after_none : (s : Settings) (w : List DiskSite) (x : StepAt) (xs : List StepAt) → slice_get w x.number ≡ None → MayHappenApart s w (x ∷ xs)
    → MayHappenApart s w xs
after_none s w x xs none apart i d at = other_step s d i x xs (λ q. absurd (cc (sym none ∙ ap (slice_get w) (sym q) ∙ at))) (apart i d at)

-- a step, and then the others
one_leads : (s : Settings) (w : List DiskSite) (x : StepAt) (xs : List StepAt) → MayHappenApart s w (x ∷ xs) → WasReported s w x.step
    → ((v : List DiskSite) → MayHappenApart s v xs → AreReportedBefore s v xs → Leads s v (world_after_steps s v xs))
    → (o : Option DiskSite) → slice_get w x.number ≡ o → AreReportedBefore s (with_step s w x o) xs
    → Leads s w (world_after_steps s (with_step s w x o) xs)
one_leads s w x xs apart reported rest None at later = rest w (after_none s w x xs at apart) later
one_leads s w x xs apart reported rest (Some d) at later =
    let may = (own_step s d x xs (apart x.number d at)).0 in
    let step : TakesStep s w (slice_set w x.number (after_step s d x.step)) =
    record { number = x.number; site = d; at = at; step = x.step; may = may; reported = reported; is = refl } in
    Goes step (rest _ (after_one s w x xs d at apart) later)

-- interleaved steps that may happen at their own sites, and deliver reported messages alone, lead from world to world
pub lead : InterleavedStepsLead
lead s w [] apart before = Stays
lead s w (x ∷ xs) apart (reported, later) =
    one_leads s w x xs apart reported (λ v may before. lead s v xs may before) (slice_get w x.number) refl later
