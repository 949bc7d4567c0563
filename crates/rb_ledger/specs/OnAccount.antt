-- The operations on an account, as their own or their second one.
use Rattle.std.specs.Prelude.{◌≡◌, ℕ, ◌+◌, ◌<◌, true, List, take, slice_get, Some, ◌⊎◌}
use Rattle.rb_money.specs.declared.place.Place.{Place}
use Rattle.rb_shadow.specs.declared.shadow.Shadow.{Shadow}
use Rattle.rb_shadow.specs.Operations.{is_on}

-- the position, counted from 1, of an operation on the account, or 0
abbrev pub IsOn : List Shadow → Place → ℕ → Type 0
IsOn us a p = (p ≡ 0) ⊎ ((i : ℕ) × (u : Shadow) × (p ≡ i + 1) × (slice_get us i ≡ Some u) × (is_on (take i us) u a ≡ true))

-- no operation on the account is after the position: none at an index from p on, counted from 0
abbrev pub IsNoneAfter : List Shadow → Place → ℕ → Type 0
IsNoneAfter us a p = (i : ℕ) (u : Shadow) → slice_get us i ≡ Some u → is_on (take i us) u a ≡ true → i < p

-- the position of the last operation on the account, or 0 if none is on it
pub record IsLast (us : List Shadow) (a : Place) (p : ℕ) : Type 0 where
  pub on : IsOn us a p
  pub after : IsNoneAfter us a p
