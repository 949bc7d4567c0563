-- Bytes that wait, bytes that are buffered for the writer, and reads that are left.
use Rattle.std.specs.Prelude.{◌≡◌, ℕ, ◌+◌, ◌*◌, ◌<◌, ◌≤◌, ◌⊎◌, Bool, true, false, List, [], ◌++◌, length, Option, Some, None}
use Rattle.std.specs.Io.KnownBytes.{Appends, Consumes, Keeps}
use Rattle.rb_lines.specs.declared.buffers.Buffers.{Buffers}
use Rattle.rb_lines.specs.declared.no_line.NoLine.{NoLine}
use Rattle.rb_lines.specs.declared.no_line.NoLine.TheVariants.{TooLong, Read, Write, OutOfMemory}
use Rattle.rb_lines.specs.Lines.{line_len}
use Rattle.rb_lines.specs.declared.limits.TheConstants.{LINE_LIMIT, READ_SIZE, MOST_READS}

-- the reads that were made and those that may still be made are the most reads together
abbrev pub Counts : ℕ → ℕ → Type 0
Counts calls reads = calls + reads ≡ MOST_READS

-- how much can still come: it falls with each line that is taken
abbrev pub left : Buffers → ℕ
left b = length b.pending + READ_SIZE * b.reads

-- a line of n bytes is whole at the front, with its line feed or at the end of the source
abbrev pub IsWholeLine : Buffers → ℕ → Type 0
IsWholeLine b n = (n ≡ line_len b.pending) × (n ≤ LINE_LIMIT) × (n ≤ length b.pending)
    × ((n < length b.pending) ⊎ ((n ≡ length b.pending) × (0 < n) × (b.ended ≡ true)))

-- the next line, or the end
abbrev pub IsNextLine : Buffers → Option ℕ → Type 0
IsNextLine b None = (b.pending ≡ []) × (b.ended ≡ true)
IsNextLine b (Some n) = IsWholeLine b n

-- what was read is at the end of what waits
abbrev pub Reads : List ℕ → List ℕ → Option (List ℕ) → Option (List ℕ) → Type 0
Reads old new had has = (more : List ℕ) × (new ≡ old ++ more) × Consumes had has more

-- what went out was a prefix of what was buffered, and the rest still is
abbrev pub Sends : Option (List ℕ) → Option (List ℕ) → List ℕ → List ℕ → Type 0
Sends had has buffered still = (sent : List ℕ) × Appends had has sent × (buffered ≡ sent ++ still)

-- a read failed, or there were as many as there may be: nothing else changed
abbrev pub HasRead : Buffers → Buffers → Option (List ℕ) → Option (List ℕ) → Bool → ℕ → NoLine → Type 0
HasRead old new had has failed calls Read = (new.pending ≡ old.pending) × (new.ended ≡ false) × Keeps had has
    × ((failed ≡ true) ⊎ (calls ≡ MOST_READS))
HasRead old new had has failed calls OutOfMemory = new.ended ≡ false
HasRead old new had has failed calls TooLong = ⊥
HasRead old new had has failed calls Write = ⊥
