-- Memory for the answer to a batch.
use Rattle.std.specs.Prelude.{◌≡◌, ℕ, Bool}

-- memory for up to this number of operations, for a history that keeps replies or doesn't
pub record BatchCapacityFor : Type 0 where
  pub most : ℕ
  pub keeps : Bool

-- the memory is for this number of operations, and for a history that keeps replies or not, as given
abbrev pub IsCapacityFor : BatchCapacityFor → Bool → ℕ → Type 0
IsCapacityFor capacity keeps most = capacity ≡ record { most = most; keeps = keeps }
