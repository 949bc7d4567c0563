-- Faults of a shadow by itself.
use Rattle.std.specs.Prelude.{◌≡◌, ℕ, ◌+◌, ◌-◌, Bool, true, false, if◌then◌else◌, not, ◌&&◌, ◌||◌, nat_le, nat_lt, ◌==◌, List, [], ◌∷◌}
use Rattle.std.specs.Prelude.{length, Option, Some, None, is_some}
use Rattle.rb_money.specs.Refusals.{unless}
use Rattle.rb_money.specs.Settings.{Settings}
use Rattle.rb_money.specs.declared.limits.Limits.{Limits}
use Rattle.rb_money.specs.declared.cents.TheConstants.{MOST_CENTS}
use Rattle.rb_money.specs.declared.place.Place.{Place}
use Rattle.rb_shadow.specs.declared.op_name.OpName.{OpName}
use Rattle.rb_shadow.specs.declared.op_name.OpName.TheVariants.{Blue, Red}
use Rattle.rb_shadow.specs.declared.kind.Kind.{Kind}
use Rattle.rb_shadow.specs.declared.kind.Kind.TheVariants.{Interest, Cancel}
use Rattle.rb_shadow.specs.declared.deps.Deps.{Deps}
use Rattle.rb_shadow.specs.declared.shadow.Shadow.{Shadow}
use Rattle.rb_shadow.specs.Operations.{names_of_clock, number_of, entry_of, target_of, receiver_of, colour_of, shown_colour, same_colour}

-- a blue name's site isn't the home
abbrev pub is_foreign : OpName → ℕ → Bool
is_foreign (Blue i n) home = not (i == home)
is_foreign (Red n) home = false

-- a blue name of a site that the bank doesn't have
abbrev pub is_absent : ℕ → OpName → Bool
is_absent sites (Blue i n) = nat_le sites i
is_absent sites (Red n) = false

-- how many names of its colour there may be
abbrev pub limit_of : Limits → OpName → ℕ
limit_of l (Blue i n) = l.blue
limit_of l (Red n) = l.red

-- an amount of 0 is for an Interest or a Cancel alone
abbrev pub may_be_nothing : Kind → Bool
may_be_nothing Interest = true
may_be_nothing (Cancel x) = true
may_be_nothing _ = false

-- each entry is within the limit, and 0 past the sites
abbrev pub are_entries : ℕ → ℕ → List ℕ → Bool
are_entries sites limit [] = true
are_entries sites limit (n ∷ ns) = (if sites == 0 then n == 0 else nat_le n limit) && are_entries (sites - 1) limit ns

-- the first thing that is wrong with a shadow by itself, in a configuration:
-- 1: its home is no site, or its name is of another one;
-- 2: its number is 0 or over the limit;
-- 3: its account is none of the configuration's; or its receiver, if there is one, is none of these or the own account;
-- 4: its amount is too large, or 0;
-- 5: it is no cancellation, and its name isn't of its kind's colour;
-- 6: it cancels what its home can't have applied: a target of a site that the bank doesn't have, or one that the clock
-- doesn't count;
-- 7: its entries aren't those of a clock for this number of sites, or don't come just before its name
unfoldable pub fault_of : Settings → Shadow → Option ℕ
fault_of s v =
    if nat_le s.sites v.home || is_foreign v.name v.home then Some 1
    else (if number_of v.name == 0 || nat_lt (limit_of s.limits v.name) (number_of v.name) then Some 2
    else (if nat_le (length s.starts) v.account.0
    || unless (λ to. nat_le (length s.starts) to.0 || (to.0 == v.account.0)) (receiver_of v.kind) false then Some 3
    else (if nat_lt MOST_CENTS v.amount || (v.amount == 0 && not (may_be_nothing v.kind)) then Some 4
    else (if not (is_some (target_of v.kind)) && not (same_colour (shown_colour v.name) (colour_of v.kind None)) then Some 5
    else (if unless (λ x. is_absent s.sites x || not (names_of_clock v.deps x)) (target_of v.kind) false then Some 6
    else (if not (are_entries s.sites s.limits.blue v.deps.blue && nat_le v.deps.red s.limits.red)
    || not (entry_of v.deps v.name + 1 == number_of v.name) then Some 7
    else None))))))

-- nothing is wrong with it by itself
abbrev pub IsSound : Settings → Shadow → Type 0
IsSound s v = fault_of s v ≡ None
