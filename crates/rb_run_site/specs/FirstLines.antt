-- The first line of an input that isn't blank.
use Rattle.std.specs.Prelude.{◌≡◌, ℕ, ◌+◌, not, true, List, [], ◌∷◌, ◌++◌, length, Option, Some, Result, Ok, Err}
use Rattle.std.specs.List.{filter}
use Rattle.rb_lines.specs.Lines.{is_blank, is_long, lines_of, whole_lines}
use Rattle.rb_run_site.specs.declared.fault.SiteFault.{SiteFault}
use Rattle.rb_run_site.specs.declared.fault.SiteFault.TheVariants.{NoConfig}
use Rattle.rb_run_site.specs.declared.fault.SiteFault.TheVariants.{LongLine, Read, OutOfMemory}

-- the lines that aren't blank
abbrev pub not_blank : List (List ℕ) → List (List ℕ)
not_blank lines = filter (λ line. not (is_blank line)) lines

-- only blank lines are before these lines of the input, the first of which has this number
pub record IsBehindBlanks (number : ℕ) (later : List (List ℕ)) (input : List ℕ) : Type 0 where
  pub blanks : List (List ℕ)
  pub are_blank : not_blank blanks ≡ []
  pub number_is : number ≡ 1 + length blanks
  pub whole : lines_of input ≡ blanks ++ later

-- the lines that wait, and those still to be read, are after blank lines of the input
pub record WaitsAt (number : ℕ) (pending : List ℕ) (left : Option (List ℕ)) (input : List ℕ) : Type 0 where
  pub rest : List ℕ
  pub left_is : left ≡ Some rest
  pub behind : IsBehindBlanks number (lines_of (pending ++ rest)) input

-- these bytes of the input were read, and each line of them that has its line feed is blank
pub record HasReadBlanks (left : Option (List ℕ)) (input : List ℕ) : Type 0 where
  pub taken : List ℕ
  pub rest : List ℕ
  pub left_is : left ≡ Some rest
  pub whole : input ≡ taken ++ rest
  pub are_blank : not_blank (whole_lines taken) ≡ []

-- the line of the input that has this number is too long, and only blank lines are before it
abbrev pub IsLongFirst : ℕ → List ℕ → Type 0
IsLongFirst k input =
    (line : List ℕ) × (later : List (List ℕ)) × (is_long line ≡ true) × IsBehindBlanks k (line ∷ later) input

-- the first line that isn't blank was found, and waits with what is after it; or why it wasn't
abbrev pub FindsFirst : Result (ℕ × ℕ) SiteFault → List ℕ → List ℕ → Option (List ℕ) → Type 0
FindsFirst (Ok (n, number)) input pending left = WaitsAt number pending left input
FindsFirst (Err NoConfig) input pending left = (not_blank (lines_of input) ≡ []) × (left ≡ Some [])
FindsFirst (Err (LongLine k)) input pending left = IsLongFirst k input
FindsFirst (Err Read) input pending left = HasReadBlanks left input
FindsFirst (Err OutOfMemory) input pending left = Unit {0}
FindsFirst (Err _) input pending left = ⊥
