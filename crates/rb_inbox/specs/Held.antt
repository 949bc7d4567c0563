-- The list of held operations: one for each name, in the order of the names.
use Rattle.std.specs.Prelude.{◌≡◌, ◌≢◌, ℕ, suc, ◌+◌, ◌≤◌, Bool, true, false, if◌then◌else◌, not, ◌&&◌, ◌||◌, nat_lt, ◌==◌, List, [], ◌∷◌}
use Rattle.std.specs.Prelude.{length, filter, Some, None, ◌⊎◌}
use Rattle.rb_shadow.specs.Operations.{Among, entry_of, find_in, names_of_clock, number_of, past, row_of, same_name, IsWithin}
use Rattle.rb_shadow.specs.Sound.{is_foreign}
use Rattle.rb_shadow.specs.declared.deps.Deps.{Deps}
use Rattle.rb_shadow.specs.declared.op_name.OpName.{OpName}
use Rattle.rb_shadow.specs.declared.op_name.OpName.TheVariants.{Blue, Red}
use Rattle.rb_shadow.specs.declared.shadow.Shadow.{Shadow}

-- the order of the names: blue ones by site and number, then red ones by number
abbrev pub comes_before : OpName → OpName → Bool
comes_before (Blue i m) (Blue j n) = nat_lt i j || ((i == j) && nat_lt m n)
comes_before (Blue i m) (Red n) = true
comes_before (Red m) (Blue j n) = false
comes_before (Red m) (Red n) = nat_lt m n

-- the list with one operation more, in its place
abbrev pub with_held : Shadow → List Shadow → List Shadow
with_held v [] = v ∷ []
with_held v (u ∷ us) = if comes_before v.name u.name then v ∷ u ∷ us else u ∷ with_held v us

-- the list without the operation of a name
abbrev pub without : OpName → List Shadow → List Shadow
without x us = filter (λ u. not (same_name u.name x)) us

-- the number of operations from which on only ready ones are taken in, and the operations held
pub record Holding : Type 0 where
  pub limit : ℕ
  pub held : List Shadow

-- the name comes before that of each of the operations
abbrev pub ComesBeforeAll : OpName → List Shadow → Type 0
ComesBeforeAll x [] = Unit {0}
ComesBeforeAll x (u ∷ us) = (comes_before x u.name ≡ true) × ComesBeforeAll x us

-- each operation's name comes before those of all later ones, so there is one for each name
abbrev pub IsInOrder : List Shadow → Type 0
IsInOrder [] = Unit {0}
IsInOrder (u ∷ us) = ComesBeforeAll u.name us × IsInOrder us

-- how many of the first operations have names before this one
abbrev pub held_before : List Shadow → OpName → ℕ
held_before [] x = 0
held_before (u ∷ us) x = if comes_before u.name x then suc (held_before us x) else 0

-- how many of the operations in the row of the name have names before it
abbrev pub index_in_row : List Shadow → OpName → ℕ
index_in_row held x = held_before (filter (λ u. row_of u.name == row_of x) held) x

-- an operation that may be held: a blue name's site is its home, and the name's number, so at least 1, is one more than
-- the entry of its past for the name
pub record IsNumbered (v : Shadow) : Type 0 where
  pub home : is_foreign v.name v.home ≡ false
  pub next : number_of v.name ≡ entry_of v.deps v.name + 1

-- the operation can be applied at the clock: all of its past is counted there
abbrev pub IsReady : Deps → Shadow → Type 0
IsReady c v = IsWithin (past v) (names_of_clock c)

-- of one home, an operation of the first name is applied before one of the second: a blue one before a red one, and of
-- one colour the one of the lesser number
abbrev pub is_sooner : OpName → OpName → Bool
is_sooner (Blue i m) (Blue j n) = nat_lt m n
is_sooner (Blue i m) (Red n) = true
is_sooner (Red m) (Blue j n) = false
is_sooner (Red m) (Red n) = nat_lt m n

-- of two ready operations the first is applied before the second: they go by home, and of one home as their names say
abbrev pub is_applied_before : Shadow → Shadow → Bool
is_applied_before u v = nat_lt u.home v.home || ((u.home == v.home) && is_sooner u.name v.name)

-- of the operations that are ready at the clock this is the first: it is applied before each other one
pub record IsFirstOf (us : List Shadow) (c : Deps) (v : Shadow) : Type 0 where
  pub among : Among v us
  pub ready : IsReady c v
  pub first : (u : Shadow) → Among u us → IsReady c u → (u ≡ v) ⊎ (is_applied_before v u ≡ true)

-- the operation of the name is the first of those that are ready
abbrev pub IsFirstReady : List Shadow → Deps → OpName → Type 0
IsFirstReady us c x = (v : Shadow) × (find_in us x ≡ Some v) × IsFirstOf us c v

-- an operation can be put: nothing is held under its name, and the inbox isn't full, or it is ready
pub record IsWelcome (b : Holding) (c : Deps) (v : Shadow) : Type 0 where
  pub new : find_in b.held v.name ≡ None
  pub room : b.limit ≤ length b.held → IsReady c v

-- an operation can't be put as the inbox is full: nothing is held under its name, and it isn't ready
pub record IsTooMany (b : Holding) (c : Deps) (v : Shadow) : Type 0 where
  pub new : find_in b.held v.name ≡ None
  pub full : b.limit ≤ length b.held
  pub waits : ¬ IsReady c v

-- another operation is held under its name
abbrev pub IsInConflict : Holding → Shadow → Type 0
IsInConflict b v = (u : Shadow) × (find_in b.held v.name ≡ Some u) × (u ≢ v)

-- an operation is held under the name, and is ready
abbrev pub HoldsReady : Holding → Deps → OpName → Type 0
HoldsReady b c x = (u : Shadow) × (find_in b.held x ≡ Some u) × IsReady c u

-- an operation is held under the name, and isn't ready
abbrev pub HoldsWaiting : Holding → Deps → OpName → Type 0
HoldsWaiting b c x = (u : Shadow) × (find_in b.held x ≡ Some u) × ¬ IsReady c u
