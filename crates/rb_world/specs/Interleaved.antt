-- Steps of single sites, interleaved to steps of a world.
use Rattle.std.specs.Prelude.{◌≡◌, ℕ, ◌==◌, if◌then◌else◌, List, [], ◌∷◌, Option, Some, None, slice_get, slice_set}
use Rattle.rb_money.specs.Settings.{Settings}
use Rattle.rb_world.specs.Crashes.{DiskSite, DiskStep, Leads, MayAllHappen, WasReported, after_step}

-- a step, with the number of its site
pub record StepAt : Type 0 where
  pub number : ℕ
  pub step : DiskStep

-- the steps of the site of a number
abbrev pub steps_at : ℕ → List StepAt → List DiskStep
steps_at i [] = []
steps_at i (x ∷ xs) = if x.number == i then x.step ∷ steps_at i xs else steps_at i xs

-- the world after a step; at a number without a site nothing happens
abbrev pub with_step : Settings → List DiskSite → StepAt → Option DiskSite → List DiskSite
with_step s w x None = w
with_step s w x (Some d) = slice_set w x.number (after_step s d x.step)

-- the world after a list of steps
abbrev pub world_after_steps : Settings → List DiskSite → List StepAt → List DiskSite
world_after_steps s w [] = w
world_after_steps s w (x ∷ xs) = world_after_steps s (with_step s w x (slice_get w x.number)) xs

-- each message was reported by some site before it is delivered
abbrev pub AreReportedBefore : Settings → List DiskSite → List StepAt → Type 0
AreReportedBefore s w [] = Unit {0}
AreReportedBefore s w (x ∷ xs) =
    WasReported s w x.step × AreReportedBefore s (with_step s w x (slice_get w x.number)) xs

-- at each site its own steps may happen, as far as that site alone can tell
abbrev pub MayHappenApart : Settings → List DiskSite → List StepAt → Type 0
MayHappenApart s w xs = (i : ℕ) (d : DiskSite) → slice_get w i ≡ Some d → MayAllHappen s d (steps_at i xs)

-- in whatever order the steps of single sites are taken, they lead from world to world
abbrev pub InterleavedStepsLead : Type 0
InterleavedStepsLead = (s : Settings) (w : List DiskSite) (xs : List StepAt) → MayHappenApart s w xs → AreReportedBefore s w xs →
    Leads s w (world_after_steps s w xs)
