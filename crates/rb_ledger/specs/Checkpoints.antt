-- Checkpoints: the last operations on the accounts, at regular points of the list.
use Rattle.std.specs.Prelude.{◌≡◌, ℕ, ◌+◌, ◌*◌, ◌<◌, ◌≤◌, List, length, take, slice_get, Some}
use Rattle.rb_money.specs.Settings.{Settings}
use Rattle.rb_money.specs.declared.place.Place.{Place}
use Rattle.rb_shadow.specs.declared.shadow.Shadow.{Shadow}
use Rattle.rb_ledger.specs.declared.checkpoints.Checkpoints.{Checkpoints}
use Rattle.rb_ledger.specs.declared.checkpoints.TheConstants.{OPERATIONS_PER_ENTRY}
use Rattle.rb_ledger.specs.OnAccount.{IsLast}

-- how many operations there are when there is this number of entries
abbrev pub as_of : ℕ → ℕ
as_of n = OPERATIONS_PER_ENTRY * n

-- the checkpoints of a list: rows of an entry for each account, as many as there are whole strides of operations, of
-- which row k is as of the first k + 1
pub record AreCheckpoints (s : Settings) (us : List Shadow) (c : Checkpoints) : Type 0 where
  pub accounts : c.accounts ≡ length s.starts
  pub rows : (n : ℕ) × (length c.lasts.items ≡ n * c.accounts)
  pub due : c.due ≡ as_of (length c.lasts.items + c.accounts)
  pub within : as_of (length c.lasts.items) ≤ length us
  pub next : length us < c.due
  pub each : (k : ℕ) (a : Place) (p : ℕ) → a.0 < c.accounts → slice_get c.lasts.items (k * c.accounts + a.0) ≡ Some p →
      IsLast (take (as_of (k * c.accounts + c.accounts)) us) a p
