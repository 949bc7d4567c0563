-- Where messages can be had: each operation that a site makes is in its list.
use Rattle.std.specs.Prelude.{◌≡◌, ℕ, ◌+◌, List, [], ◌∷◌, Some, slice_get}
use Rattle.rb_shadow.specs.declared.shadow.Shadow.{Shadow}
use Rattle.rb_ledger.specs.Valid.{operation_at}
use Rattle.rb_site.specs.declared.message.Message.{Message}
use Rattle.rb_site.specs.declared.message.Message.TheVariants.{Shadow as ShadowMessage, Token as TokenOnItsWay}
use Rattle.rb_site.specs.Events.{ModelSite}

-- the operation is that of site i at position n, counted from 1
abbrev pub IsOperationAt : List ModelSite → ℕ → ℕ → Shadow → Type 0
IsOperationAt ts i n v = (t : ModelSite) × (slice_get ts i ≡ Some t) × (operation_at t.ops n ≡ Some v)

-- if a message has an operation, it is that of site i at position n
abbrev pub IsMadeAt : List ModelSite → ℕ → ℕ → Message → Type 0
IsMadeAt ts i n (ShadowMessage v) = IsOperationAt ts i n v
IsMadeAt ts i n (TokenOnItsWay m) = Unit {0}

-- those of a list's messages are site i's from position n on
abbrev pub AreMadeFrom : List ModelSite → ℕ → ℕ → List Message → Type 0
AreMadeFrom ts i n [] = Unit {0}
AreMadeFrom ts i n (m ∷ ms) = IsMadeAt ts i n m × AreMadeFrom ts i (n + 1) ms

-- each operation stays where it is
abbrev pub AreLonger : List ModelSite → List ModelSite → Type 0
AreLonger old new = (i n : ℕ) (v : Shadow) → IsOperationAt old i n v → IsOperationAt new i n v
