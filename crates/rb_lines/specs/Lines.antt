-- The lines of some bytes.
use Rattle.std.specs.Prelude.{ℕ, ◌==◌, ◌||◌, Bool, List, [], ◌∷◌, length, nat_lt, if◌then◌else◌}
use Rattle.std.specs.List.{onto_first, list_all, position_or_len}
use Rattle.rb_lines.specs.declared.limits.TheConstants.{LINE_LIMIT}

-- a line feed ends a line, and what follows the last one is a line if there is anything
abbrev pub lines_of : List ℕ → List (List ℕ)
lines_of [] = []
lines_of (b ∷ bs) = if b == 10 then [] ∷ lines_of bs else onto_first b (lines_of bs)

-- a byte before a line goes onto that line, if there is one
abbrev pub onto_whole : ℕ → List (List ℕ) → List (List ℕ)
onto_whole b [] = []
onto_whole b (l ∷ ls) = (b ∷ l) ∷ ls

-- the lines that have come to their line feed
abbrev pub whole_lines : List ℕ → List (List ℕ)
whole_lines [] = []
whole_lines (b ∷ bs) = if b == 10 then [] ∷ whole_lines bs else onto_whole b (whole_lines bs)

-- the bytes before the first line feed, or all
abbrev pub line_len : List ℕ → ℕ
line_len bs = position_or_len (λ b. b == 10) bs

-- the line has more bytes than a line may have
abbrev pub is_long : List ℕ → Bool
is_long l = nat_lt LINE_LIMIT (length l)

-- the line has spaces, tabs and carriage returns alone, or nothing
abbrev pub is_blank : List ℕ → Bool
is_blank l = list_all (λ b. b == 32 || b == 9 || b == 13) l
