-- Lists of operations.
use Rattle.std.specs.Prelude.{◌≡◌, ◌⊎◌, true, ℕ, ◌+◌, ◌-◌, List, [], ◌∷◌, ◌++◌, length, map, take, drop, replicate}
use Rattle.std.specs.Prelude.{slice_index, slice_index_or, slice_set}
use Rattle.rb_money.specs.declared.limits.TheConstants.{MOST_SITES}
use Rattle.rb_shadow.specs.declared.deps.Deps.{Deps}
use Rattle.rb_shadow.specs.declared.shadow.Shadow.{Shadow}
use Rattle.rb_shadow.specs.Sound.{are_entries}
use Rattle.rb_shadow.specs.declared.colour.Colour.{Colour}
use Rattle.rb_shadow.specs.declared.colour.Colour.TheVariants.{Blue as BlueColour, Red as RedColour}
use Rattle.rb_shadow.specs.declared.op_name.OpName.{OpName}
use Rattle.rb_shadow.specs.declared.op_name.OpName.TheVariants.{Blue, Red}
use Rattle.rb_shadow.specs.Operations.{row_of}
use Rattle.rb_ledger.specs.declared.kept_operation.KeptOperation.{KeptOperation}

-- the operations, of how many sites their clocks' entries are kept, at least three, and for how many operations there
-- is memory
pub record OperationTable : Type 0 where
  pub items : List Shadow
  pub sites : ℕ
  pub limit : ℕ

-- the entries of the first sites, and 0 for all others
abbrev pub padded : List ℕ → List ℕ
padded ns = ns ++ replicate (MOST_SITES - length ns) 0

-- the clock has entries for these sites alone: all others are 0
abbrev pub IsOfSites : ℕ → Deps → Type 0
IsOfSites sites d = (limit : ℕ) × (are_entries sites limit d.blue ≡ true)

-- the clock of its red entry and then those of the sites
abbrev pub clock_of_counts : ℕ → List ℕ → Deps
clock_of_counts sites ns = record { blue = padded (take sites (drop 1 ns)); red = slice_index ns 0 }

-- the name of a colour and a number of an operation of this home: a blue one's site is the home
abbrev pub kept_name : Colour → ℕ → ℕ → OpName
kept_name BlueColour home n = Blue home n
kept_name RedColour home n = Red n

-- an operation of what it is without its clock, and its clock
abbrev pub with_clock : KeptOperation → Deps → Shadow
with_clock b d = record {
  name = kept_name b.colour b.home b.number;
  home = b.home;
  account = b.account;
  deps = d;
  amount = b.amount;
  kind = b.kind;
}

-- an operation, by what is kept of it: its own entry is its number less 1, whatever is kept there
abbrev pub with_counts : ℕ → KeptOperation → List ℕ → Shadow
with_counts sites b ns = with_clock b (clock_of_counts sites (slice_set ns (row_of (kept_name b.colour b.home b.number)) (b.number - 1)))

-- the operations, by what is kept of them: each has the number of its clock among those that are kept
abbrev pub operations_of : ℕ → List KeptOperation → List (List ℕ) → List Shadow
operations_of sites bs cs = map (λ (b : KeptOperation). with_counts sites b (slice_index_or cs b.clock [])) bs

-- how many clocks are kept for these operations, of which as many as the number are kept for those before
abbrev pub clock_count : ℕ → List KeptOperation → ℕ
clock_count before [] = before
clock_count before (b ∷ bs) = clock_count (b.clock + 1) bs

-- each operation has the next clock, or that of the operation before it
unfoldable pub AreInOrder : ℕ → List KeptOperation → Type 0
AreInOrder before [] = Unit {0}
AreInOrder before (b ∷ bs) = ((b.clock ≡ before) ⊎ (b.clock + 1 ≡ before)) × AreInOrder (b.clock + 1) bs
