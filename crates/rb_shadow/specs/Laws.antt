-- Laws of lists of operations.
use Rattle.std.specs.Prelude.{◌≡◌, false, true, List, ◌∷◌, ◌++◌, ◌⊎◌, [], pos, ◌≤ℤ◌}
use Rattle.rb_money.specs.Settings.{Settings, start_of}
use Rattle.rb_money.specs.declared.place.Place.{Place}
use Rattle.rb_shadow.specs.declared.shadow.Shadow.{Shadow}
use Rattle.rb_shadow.specs.Operations.{Agree, Among, AreSame, IsUnique, IsWithin, Precedes, bal, is_red, names, past}

-- each operation of the first list is one of the second
abbrev pub IsPart : List Shadow → List Shadow → Type 0
IsPart us vs = (u : Shadow) → Among u us → Among u vs

-- a list that has the past of each of its operations
abbrev pub IsClosed : List Shadow → Type 0
IsClosed vs = (v : Shadow) → Among v vs → IsWithin (past v) (names vs)

-- cancellation commutes: the same operations agree in every order. So a cancellation may come anywhere after its
-- target, and a second one anywhere after it, with the same balances, numbers of cancellations and names
abbrev pub CancellationCommutes : Type 0
CancellationCommutes = (s : Settings) (us vs : List Shadow) → IsUnique us → IsUnique vs → IsPart us vs → IsPart vs us → Agree s us vs

-- where a balance comes from in a list of operations: the list has no red one, and no less than the start; or of its
-- red ones the last, after whose past, each operation of it once, the balance with it was not negative, and the list
-- has no less than that
abbrev pub IsFunded : Settings → List Shadow → List Shadow → Place → Type 0
IsFunded s all vs a =
    (((v : Shadow) → Among v vs → is_red v.name ≡ false) × (pos (start_of s a) ≤ℤ bal s vs a))
    ⊎ ((r : Shadow) × Among r vs × (is_red r.name ≡ true) × ((v : Shadow) → Among v vs → is_red v.name ≡ true →
    (v.name ≡ r.name) ⊎ Precedes v r)
    × (before : List Shadow) × IsPart before all × IsUnique before × AreSame (names before) (past r)
    × (pos 0 ≤ℤ bal s (before ++ r ∷ []) a) × (bal s (before ++ r ∷ []) a ≤ℤ bal s vs a))
