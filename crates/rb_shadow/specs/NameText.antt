-- The text of an operation's name.
use Rattle.std.specs.Prelude.{ℕ, ◌<◌, ◌^◌, ◌==◌, ◌&&◌, List, [], ◌∷◌, ◌++◌, Option, Some, None, decimal, codes, bytes_eq, nat_lt, Bool}
use Rattle.std.specs.Prelude.{if◌then◌else◌}
use Rattle.std.specs.List.{before_first, after_first}
use Rattle.std.specs.Str.Parse.{digits_value}
use Rattle.rb_shadow.specs.declared.op_name.OpName.{OpName}
use Rattle.rb_shadow.specs.declared.op_name.OpName.TheVariants.{Blue, Red}

-- `B0.1` is the first blue operation of site 0, and `R1` the first red one
abbrev pub name_text : OpName → List ℕ
name_text (Blue site n) = codes "B" ++ decimal site ++ codes "." ++ decimal n
name_text (Red n) = codes "R" ++ decimal n

-- the numbers fit their types
abbrev pub IsName : OpName → Type 0
IsName (Blue site n) = (site < 2 ^ 8) × (n < 2 ^ 32)
IsName (Red n) = n < 2 ^ 32

-- the same, as a test
abbrev pub is_name : OpName → Bool
is_name (Blue site n) = nat_lt site (2 ^ 8) && nat_lt n (2 ^ 32)
is_name (Red n) = nat_lt n (2 ^ 32)

-- the one name that a text could be: after an `R` (82) its digits, else its digits before and after the first dot (46)
abbrev pub candidate : List ℕ → OpName
candidate [] = Red 0
candidate (b ∷ bs) = if b == 82 then Red (digits_value 10 bs) else Blue (digits_value 10 (before_first (λ c. c == 46) bs))
    (digits_value 10 (after_first (λ c. c == 46) bs))

-- the name whose text this is
abbrev pub name_of : List ℕ → Option OpName
name_of text = if is_name (candidate text) && bytes_eq (name_text (candidate text)) text then Some (candidate text) else None
