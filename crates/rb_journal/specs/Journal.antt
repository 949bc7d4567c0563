-- When a journal is at rest, and what its calls may leave.
use Rattle.std.specs.Prelude.{◌≡◌, ◌⊎◌, ◌≤◌, ℕ, List, [], ◌∷◌, ◌++◌, length}
use Rattle.std.specs.List.{concat}
use Rattle.rb_journal.specs.Host.{Only, AddsPrefix, Cut}
use Rattle.rb_journal.specs.Lines.{recovered, at_rest, sealed}
use Rattle.rb_journal.specs.declared.journal.Journal.{Journal}

-- the file is whole lines and a closed gate, all of it on the disk, and no call has failed
pub record IsSettled {H : Type 0} (is_usable : H → Type 0) (content : H → List ℕ) (may_leave : H → List ℕ →
    Type 0) (journal : Journal H) : Type 0 where
  pub usable : is_usable journal.host
  pub file : content journal.host ≡ at_rest (recovered (content journal.host))
  pub end : journal.end ≡ length (concat (recovered (content journal.host)))
  pub durable : Only (content journal.host) (may_leave journal.host)

-- the file contains these lines, and this was put out
abbrev pub IsLeftAs : List (List ℕ) → List ℕ → List ℕ → List ℕ → Type 0
IsLeftAs lines output c d = (recovered c ≡ lines) × (d ≡ output)

-- the file contains the lines, with all of the batch or none of it, and this was put out
abbrev pub IsBeforeOrAfter : List (List ℕ) → List (List ℕ) → List ℕ → List ℕ → List ℕ → Type 0
IsBeforeOrAfter lines batch output c d = ((recovered c ≡ lines) ⊎ (recovered c ≡ lines ++ batch)) × (d ≡ output)

-- nothing is put out that a crash takes back: the file contains the lines, and only what was put out before is;
-- or the batch is there too, and a prefix of the reply is put out
abbrev pub IsDurable : List (List ℕ) → List (List ℕ) → List ℕ → List ℕ → List ℕ → List ℕ → Type 0
IsDurable lines batch output reply c d =
    ((recovered c ≡ lines) × (d ≡ output)) ⊎ ((recovered c ≡ lines ++ batch) × AddsPrefix output reply d)

-- the file is the lines and the closed gate, with no more than this many bytes after it
abbrev pub HasClosedGate : List (List ℕ) → ℕ → List ℕ → Type 0
HasClosedGate lines most c = (bytes : List ℕ) × (c ≡ at_rest lines ++ bytes) × (length bytes ≤ most)

-- an append has left the gate closed, with no more bytes after it than the batch has, or the batch comes after the lines
abbrev pub IsAppended : List (List ℕ) → List ℕ → List ℕ → Type 0
IsAppended lines batch c = HasClosedGate lines (length batch) c ⊎ (c ≡ at_rest (lines ++ recovered batch))

-- a repair has cut some bytes off after the lines, and then written the gate after them, or left a NUL there
abbrev pub IsRepaired : List ℕ → List ℕ → Type 0
IsRepaired file c = Cut (length (concat (recovered file))) file c
    ⊎ (c ≡ concat (recovered file) ++ 32 ∷ []) ⊎ (c ≡ concat (recovered file) ++ 0 ∷ [])

-- the file is as it was, or its lines are sealed, and this was put out
abbrev pub IsSealedOrNot : List ℕ → List ℕ → List ℕ → List ℕ → Type 0
IsSealedOrNot file output c d = ((c ≡ file) ⊎ (c ≡ sealed (recovered file))) × (d ≡ output)
