-- The contents of a journal's file.
use Rattle.std.specs.Prelude.{◌≡◌, ◌≢◌, ◌⊎◌, ◌<◌, ◌≤◌, ◌+◌, ℕ, List, [], ◌∷◌, length}
use Rattle.rb_journal.specs.Lines.{IsBatch, IsIntact, recovered}
use Rattle.rb_run_site.specs.declared.fault.SiteFault.{SiteFault}
use Rattle.rb_run_site.specs.declared.fault.SiteFault.TheVariants.{AnotherJournal, Damaged}

-- the file begins with a closed gate, a space (32), or with a NUL in its place
abbrev pub BeginsClosed : List ℕ → Type 0
BeginsClosed [] = ⊥
BeginsClosed (b ∷ bytes) = (b ≡ 32) ⊎ (b ≡ 0)

-- a journal that is new, whose first line is to be this one: the file contains no whole line, and is empty, or begins
-- with a closed gate and has no more bytes after it than the line has. A crash of the line's write leaves no more
abbrev pub IsNew : List ℕ → List ℕ → Type 0
IsNew file first = (recovered file ≡ []) × ((file ≡ []) ⊎ (BeginsClosed file × (length file ≤ length first + 1)))

-- a crash may have left the file of a journal that begins with this line: it is new, or has whole lines and isn't
-- damaged
abbrev pub IsUndamaged : List ℕ → List ℕ → Type 0
IsUndamaged file first = IsNew file first ⊎ ((recovered file ≢ []) × IsIntact file)

-- the lines of the file are this one, and then those of these bytes
abbrev pub BeginsWith : List ℕ → List ℕ → List ℕ → Type 0
BeginsWith file first entries = (recovered file ≡ first ∷ recovered entries) × IsBatch entries

-- the file contains another first line, or no whole line and another first byte than a closed gate's
abbrev pub IsAnother : List ℕ → List ℕ → Type 0
IsAnother file first = ((later : List (List ℕ)) → recovered file ≢ first ∷ later)
    × (recovered file ≡ [] → (file ≢ []) × (BeginsClosed file → ⊥))

-- the file contains no whole line and begins with a closed gate, but is longer than a new journal
abbrev pub IsNoBeginning : List ℕ → List ℕ → Type 0
IsNoBeginning file first = (recovered file ≡ []) × BeginsClosed file × (length first + 1 < length file)

-- why a file is no journal that begins with this line, and no new one: it is another's, or it is damaged where the line
-- is to be
abbrev pub IsNoJournal : List ℕ → List ℕ → SiteFault → Type 0
IsNoJournal file first AnotherJournal = IsAnother file first
IsNoJournal file first (Damaged n) = (n ≡ 1) × IsNoBeginning file first
IsNoJournal file first _ = ⊥
