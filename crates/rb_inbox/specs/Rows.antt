-- The held operations in rows: the red ones, and then the blue ones of each site.
use Rattle.std.specs.Prelude.{◌≡◌, ◌⊎◌, ℕ, suc, ◌<◌, ◌≤◌, true, if◌then◌else◌, nat_le, List, [], ◌∷◌, ◌++◌, length, Option, Some, None}
use Rattle.std.specs.List.{flat_map}
use Rattle.rb_shadow.specs.Operations.{Among, find_in, row_of}
use Rattle.rb_shadow.specs.declared.deps.Deps.{Deps}
use Rattle.rb_shadow.specs.declared.op_name.OpName.{OpName}
use Rattle.rb_shadow.specs.declared.shadow.Shadow.{Shadow}
use Rattle.rb_inbox.specs.Held.{IsInOrder, IsNumbered, IsReady, is_applied_before}
use Rattle.rb_inbox.specs.Quiet.{IsQuiet}
use Rattle.rb_inbox.specs.declared.quiet.Quiet.{Quiet}

-- the operations of all rows, in the order of the names
abbrev pub held_of : List (List Shadow) → List Shadow
held_of [] = []
held_of (reds ∷ blues) = flat_map (λ us. us) blues ++ reds

-- a list is the row of a number: its names are of that row, they rise, and each can be held
pub record IsHeldRow (r : ℕ) (us : List Shadow) : Type 0 where
  pub placed : (u : Shadow) → Among u us → row_of u.name ≡ r
  pub in_order : IsInOrder us
  pub numbered : (u : Shadow) → Among u us → IsNumbered u

-- each list is the row of its number, from a number on
abbrev pub AreHeldRows : ℕ → List (List Shadow) → Type 0
AreHeldRows r [] = Unit {0}
AreHeldRows r (us ∷ rows) = IsHeldRow r us × AreHeldRows (suc r) rows

-- the lists are rows, and have this number of operations in all, and what is known of those that wait is so
pub record AreCounted (rows : List (List Shadow)) (count : ℕ) (quiet : Option Quiet) : Type 0 where
  pub each : AreHeldRows 0 rows
  pub counted : count ≡ length (held_of rows)
  pub known : IsQuiet quiet (held_of rows)

-- of two operations the one of the lesser home; of one home the first
abbrev pub earlier_home : Option Shadow → Shadow → Shadow
earlier_home None v = v
earlier_home (Some u) v = if nat_le u.home v.home then u else v

-- no blue operation in a row before this one is ready
abbrev pub NoBlue : List Shadow → Deps → ℕ → Type 0
NoBlue us c end = (u : Shadow) → Among u us → IsReady c u → 1 ≤ row_of u.name → end ≤ row_of u.name

-- the operation of the name is blue, in a row before this one, and ready; it is applied before each other ready blue
-- one
pub record IsFirstBlue (us : List Shadow) (c : Deps) (end : ℕ) (x : OpName) : Type 0 where
  pub blue : Shadow
  pub found : find_in us x ≡ Some blue
  pub ready : IsReady c blue
  pub low : 1 ≤ row_of blue.name
  pub high : row_of blue.name < end
  pub first : (u : Shadow) → Among u us → IsReady c u → 1 ≤ row_of u.name → (u ≡ blue) ⊎ (is_applied_before blue u ≡ true)
