-- The effects of a host's calls on its file and its output, and those of a crash between two syncs.
use Rattle.std.specs.Prelude.{◌<◌, ◌≡◌, ◌⊎◌, ℕ, ◌+◌, ◌≤◌, max, true, List, [], ◌∷◌, ◌++◌, length, take, drop, Result, IsErrOf}
use Rattle.rb_journal.specs.Lines.{is_bare_gate}
use Rattle.rb_journal.specs.declared.host.HostError.{HostError}
use Rattle.rb_journal.specs.declared.host.HostError.TheVariants.{DiskFailed, OutputFailed, Full}

-- new is old with these bytes at this offset
abbrev pub IsWritten : List ℕ → ℕ → List ℕ → List ℕ → Type 0
IsWritten old at bytes new = new ≡ take at old ++ bytes ++ drop (at + length bytes) old

-- after a write of n bytes that a crash cuts short: any bytes in the range and past the old end, the same elsewhere
pub record TornRange (at n : ℕ) (old new : List ℕ) : Type 0 where
  pub before : take at new ≡ take at old
  pub after : drop (at + n) new ≡ drop (at + n) old
  pub no_shorter : length old ≤ length new
  pub no_longer : length new ≤ max (length old) (at + n)

-- after a write of one byte that a crash cuts short: nothing, or all of it; or a NUL at the end of the file, if the
-- file was made longer and the byte never came
abbrev pub TornByte : ℕ → ℕ → List ℕ → List ℕ → Type 0
TornByte at b old new = (new ≡ old) ⊎ IsWritten old at (b ∷ []) new ⊎ ((at ≡ length old) × (new ≡ old ++ 0 ∷ []))

-- after a write of these bytes that a crash cuts short: of one byte all or nothing, of more any bytes in the range
abbrev pub Torn : ℕ → List ℕ → List ℕ → List ℕ → Type 0
Torn at [] old new = TornRange at 0 old new
Torn at (b ∷ []) old new = TornByte at b old new
Torn at (b ∷ c ∷ bytes) old new = TornRange at (length (b ∷ c ∷ bytes)) old new

-- after a cut: some length between
pub record Cut (n : ℕ) (old new : List ℕ) : Type 0 where
  pub no_shorter : n ≤ length new
  pub front : take (length new) old ≡ new

-- these bytes may be cut off the end of a file: they are a bare gate, or they are at the end of what is kept
abbrev pub MayBeCut : List ℕ → List ℕ → Type 0
MayBeCut bytes kept = (is_bare_gate bytes ≡ true) ⊎ ((before : List ℕ) × (kept ≡ before ++ bytes))

-- each new outcome of a crash is an old outcome after a step
abbrev pub StepsFrom : (List ℕ → List ℕ → Type 0) → (List ℕ → Type 0) → (List ℕ → Type 0) → Type 0
StepsFrom step old new = (c : List ℕ) → new c → (d : List ℕ) × old d × step d c

-- a crash leaves this file and no other
abbrev pub Only : List ℕ → (List ℕ → Type 0) → Type 0
Only file outcomes = (c : List ℕ) → outcomes c → c ≡ file

-- during a call that puts out nothing, a crash leaves one of these files, with what was put out before
abbrev pub Silent : (List ℕ → Type 0) → List ℕ → List ℕ → List ℕ → Type 0
Silent outcomes output c d = outcomes c × (d ≡ output)

-- what was put out before, and a prefix of these bytes
abbrev pub AddsPrefix : List ℕ → List ℕ → List ℕ → Type 0
AddsPrefix output bytes d = (k : ℕ) × (d ≡ output ++ take k bytes)

-- during a call that puts out these bytes, a crash leaves one of these files, with a prefix of the bytes put out
abbrev pub Outputs : (List ℕ → Type 0) → List ℕ → List ℕ → List ℕ → List ℕ → Type 0
Outputs outcomes output bytes c d = outcomes c × AddsPrefix output bytes d

-- time goes on: a crash since t might have left what it might have left before, or what it may leave during this call
pub record Elapses {H : Type 0} (moment : H → ℕ) (left_since : H → ℕ → List ℕ → List ℕ → Type 0) (old new : H)
    (during : List ℕ → List ℕ → Type 0) : Type 0 where
  pub later : moment old ≤ moment new
  pub nothing_else : (t : ℕ) (c d : List ℕ) → t ≤ moment old → left_since new t c d → left_since old t c d ⊎ during c d
  pub keeps : (t : ℕ) (c d : List ℕ) → t ≤ moment old → left_since old t c d → left_since new t c d

-- a crash at any moment since old leaves a file, with what was put out by then, that have P
pub record LeavesOnly {H : Type 0} (moment : H → ℕ) (left_since : H → ℕ → List ℕ → List ℕ →
    Type 0) (old new : H) (P : List ℕ → List ℕ → Type 0) : Type 0 where
  pub later : moment old ≤ moment new
  pub each : (c d : List ℕ) → left_since new (moment old) c d → P c d
  -- for a run that began earlier
  pub before : (t : ℕ) (c d : List ℕ) → t ≤ moment old → left_since new t c d → left_since old t c d ⊎ P c d

-- faults only grow, and an error is answered only for its cause: `DiskFailed`, `OutputFailed` and `Full` for these
pub record HasCause (before now : ℕ) (disk output limit : Type 0) (answers : HostError → Type 0) : Type 0 where
  pub later : before ≤ now
  pub failed : answers DiskFailed → disk
  pub output_failed : answers OutputFailed → output
  pub full : answers Full → limit

-- `DiskFailed` is answered only if the file has failed since, and the two other errors aren't
abbrev pub DiskCause : {T : Type 0} → ℕ → ℕ → Result T HostError → Type 0
DiskCause before now result = HasCause before now (before < now) ⊥ ⊥ (IsErrOf result)

-- the same of the error
abbrev pub IsDiskError : ℕ → ℕ → HostError → Type 0
IsDiskError before now error = HasCause before now (before < now) ⊥ ⊥ (λ e. error ≡ e)

-- `OutputFailed` is answered only if the output has failed since, and the two other errors aren't
abbrev pub OutputCause : {T : Type 0} → ℕ → ℕ → Result T HostError → Type 0
OutputCause before now result = HasCause before now ⊥ (before < now) ⊥ (IsErrOf result)
