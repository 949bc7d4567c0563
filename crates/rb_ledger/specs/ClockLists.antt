-- Lists of clocks.
use Rattle.std.specs.Prelude.{◌≡◌, ℕ, ◌+◌, ◌-◌, ◌%◌, ◌<◌, ◌≤◌, List, [], ◌∷◌, length, map, take, drop, slice_index}
use Rattle.rb_ledger.specs.declared.counts.TheConstants.{LESS}

-- of each clock the red entry and then those of the sites; of how many sites, and for how many clocks there is memory
pub record ClockTable : Type 0 where
  pub items : List (List ℕ)
  pub sites : ℕ
  pub limit : ℕ

-- a base's count with a step added, in 32 bits
abbrev pub step_added : ℕ → ℕ → ℕ
step_added b s = (b + s) % 4294967296

-- the step from a base's count to a count, of which one byte is kept
abbrev pub kept_step : ℕ → ℕ → ℕ
kept_step b n = ((n + (4294967296 - b)) % 4294967296) % 256

-- the counts of a base with the steps added
abbrev pub sums : List ℕ → List ℕ → List ℕ
sums [] ss = []
sums (b ∷ bs) [] = []
sums (b ∷ bs) (s ∷ ss) = step_added b s ∷ sums bs ss

-- the steps from a base to the first counts, one for each of the base's
abbrev pub steps_of : List ℕ → List ℕ → List ℕ
steps_of [] ns = []
steps_of (b ∷ bs) [] = []
steps_of (b ∷ bs) (n ∷ ns) = kept_step b n ∷ steps_of bs ns

-- the base with the steps added gives the counts
abbrev pub AreNear : List ℕ → List ℕ → Type 0
AreNear bs ns = (k : ℕ) → k < length bs → step_added (slice_index bs k) (kept_step (slice_index bs k) (slice_index ns k)) ≡ slice_index ns k

-- the base that is made for a clock
abbrev pub base_of : List ℕ → List ℕ
base_of ns = map (λ n. n - LESS) ns

-- the clocks, each of this number of counts, by the bases, by where each one's base begins, and by the steps
abbrev pub clocks_of : ℕ → List ℕ → List ℕ → List ℕ → List (List ℕ)
clocks_of w bs [] ss = []
clocks_of w bs (o ∷ os) ss = sums (take w (drop o bs)) (take w ss) ∷ clocks_of w bs os (drop w ss)

-- each clock's base is whole within the bases, of which there are these many counts, and there are no more bases
-- before it than clocks
unfoldable pub AreBased : ℕ → ℕ → ℕ → List ℕ → Type 0
AreBased w before n [] = Unit {0}
AreBased w before n (o ∷ os) = (o ≤ before) × (o + w ≤ n) × AreBased w (before + w) n os
