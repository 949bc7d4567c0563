-- Files that are one.
use Rattle.std.specs.Prelude.{◌≡◌, ◌<◌, ◌++◌, ℕ, List, Option, Some, codes, length, slice_get}
use Rattle.rbbank.specs.declared.same_file.FileId.{FileId}

-- by these ids, of which a name that leads to no file has none, a file is one before it. They are numbered from 0
pub record IsSameFile (ids : List (Option FileId)) (file before : ℕ) : Type 0 where
  pub earlier : before < file
  pub id : FileId
  pub is : slice_get ids file ≡ Some (Some id)
  pub was : slice_get ids before ≡ Some (Some id)

-- no file is one before it
abbrev pub AreDifferent : List (Option FileId) → Type 0
AreDifferent ids = (file before : ℕ) → IsSameFile ids file before → ⊥

-- this number of files, none of which is one before it
abbrev pub AreFiles : ℕ → List (Option FileId) → Type 0
AreFiles count ids = (length ids ≡ count) × AreDifferent ids

-- what is said of a file that is one before it
abbrev pub same_message_of : List ℕ → List ℕ → List ℕ
same_message_of file before = codes "rbbank: " ++ (file ++ (codes ": the same file as " ++ before))
