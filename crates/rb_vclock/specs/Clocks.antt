-- Clocks, entry by entry.
use Rattle.std.specs.Prelude.{ℕ, ◌-◌, ◌≤◌, replicate, slice_index, slice_set, ◌↔◌}
use Rattle.rb_money.specs.declared.limits.TheConstants.{MOST_SITES}
use Rattle.rb_shadow.specs.declared.deps.Deps.{Deps}
use Rattle.rb_shadow.specs.declared.op_name.OpName.{OpName}
use Rattle.rb_shadow.specs.declared.op_name.OpName.TheVariants.{Blue, Red}
use Rattle.rb_shadow.specs.Operations.{IsWithin, names_of_clock}

-- each entry of the first is at least that of the second
pub record IsAtLeast (c d : Deps) : Type 0 where
  pub blue : (i : ℕ) → slice_index d.blue i ≤ slice_index c.blue i
  pub red : d.red ≤ c.red

-- one clock is at least another, entry by entry, exactly if it counts all the other's names
abbrev pub AtLeastMeansWithin : Type 0
AtLeastMeansWithin = (c d : Deps) → IsAtLeast c d ↔ IsWithin (names_of_clock d) (names_of_clock c)

-- the clock before any operation
abbrev pub zero_clock : Deps
zero_clock = record { blue = replicate MOST_SITES 0; red = 0 }

-- the clock with the entry of the name at its number
abbrev pub raised : Deps → OpName → Deps
raised c (Blue i n) = record c { blue = slice_set c.blue i n }
raised c (Red n) = record c { red = n }

-- the clock with the entry of the name just below its number
abbrev pub lowered : Deps → OpName → Deps
lowered c (Blue i n) = record c { blue = slice_set c.blue i (n - 1) }
lowered c (Red n) = record c { red = n - 1 }
