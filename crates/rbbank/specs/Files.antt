-- Tasks with the lines of files.
use Rattle.std.specs.Prelude.{◌≡◌, ◌≢◌, ◌<◌, ◌+◌, ◌-◌, ℕ, List, [], ◌∷◌, ◌++◌, length, drop, map, flat_map, codes}
use Rattle.std.specs.Prelude.{Option, None, Some, slice_get, Result, Ok, Err, Bool}
use Rattle.rb_lines.specs.Lines.{lines_of}
use Rattle.rb_lines.specs.Messages.{reason_of}
use Rattle.rb_lines.specs.declared.fault.ScriptFault.{ScriptFault}
use Rattle.rbbank.specs.declared.joined.FilesFault.{FilesFault}
use Rattle.rbbank.specs.declared.joined.FilesFault.TheVariants.{Unread, AnotherBank, Same, OutOfMemory}
use Rattle.rbbank.specs.SameFiles.{AreFiles, IsSameFile}
use Rattle.rbbank.specs.declared.same_file.FileId.{FileId}
use Rattle.rbbank.specs.declared.closing.ClosingFault.{ClosingFault}
use Rattle.rbbank.specs.declared.closing.ClosingFault.TheVariants.{Same as SameJournal, Books}
use Rattle.rb_runs.specs.Books.{NextBank}
use Rattle.rb_runs.specs.Closes.{ClosesAs}
use Rattle.rb_runs.specs.declared.books.close_fault.CloseFault.TheVariants.{OutOfMemory as NoMemory}
use Rattle.rbbank.specs.declared.joined.Joined.{Joined}
use Rattle.rbbank.specs.declared.task.Task.{Task}
use Rattle.rbbank.specs.Tasks.{DoesTask}

-- ---- files as one input

-- the first line, if there is any
abbrev pub first_line : List ℕ → Option (List ℕ)
first_line bytes = slice_get (lines_of bytes) 0

-- the lines of a file after its first one
abbrev pub lines_behind : List ℕ → List (List ℕ)
lines_behind bytes = drop 1 (lines_of bytes)

-- the lines of files as one input: all of the first file's, and of each other's those after its first line
abbrev pub joined_lines : List (List ℕ) → List (List ℕ)
joined_lines [] = []
joined_lines (file ∷ files) = lines_of file ++ flat_map lines_behind files

-- the first line of the first file
abbrev pub head_of : List (List ℕ) → Option (List ℕ)
head_of [] = None
head_of (file ∷ files) = first_line file

-- each file begins with this line
abbrev pub HaveHead : Option (List ℕ) → List (List ℕ) → Type 0
HaveHead head [] = Unit {0}
HaveHead head (file ∷ files) = (first_line file ≡ head) × HaveHead head files

-- all files begin with the first one's first line
abbrev pub HaveOneHead : List (List ℕ) → Type 0
HaveOneHead files = HaveHead (head_of files) files

-- these bytes are the files as one input: a file that is alone is the input
pub record AreInput (files : List (List ℕ)) (input : List ℕ) : Type 0 where
  pub one : HaveOneHead files
  pub lines : lines_of input ≡ joined_lines files
  pub alone : (file : List ℕ) → files ≡ file ∷ [] → input ≡ file

-- how many lines of the input are of each file
abbrev pub line_counts : List (List ℕ) → List ℕ
line_counts [] = []
line_counts (file ∷ files) = length (lines_of file) ∷ map (λ other. length (lines_behind other)) files

-- these files were joined
pub record AreJoined (files : List (List ℕ)) (joined : Joined) : Type 0 where
  pub input : AreInput files joined.bytes.items
  pub counts : joined.counts.items ≡ line_counts files

-- line n of an input is this line of this file. Files are numbered from 0, and lines from 1
pub record IsPlace (files : List (List ℕ)) (n file line : ℕ) : Type 0 where
  pub bytes : List ℕ
  pub there : slice_get files file ≡ Some bytes
  pub is : slice_get (joined_lines files) (n - 1) ≡ slice_get (lines_of bytes) (line - 1)

-- the last file begins with another line than those before it
pub record HasAnotherHead (files : List (List ℕ)) : Type 0 where
  pub before : List (List ℕ)
  pub last : List ℕ
  pub are : files ≡ before ++ last ∷ []
  pub one : HaveOneHead before
  pub differs : first_line last ≢ head_of before

-- why this number of files aren't one input, of which these were read
abbrev pub AreNoInput : ℕ → List (List ℕ) → FilesFault → Type 0
AreNoInput count files (Unread file) = (file ≡ length files) × (file < count) × HaveOneHead files
AreNoInput count files (AnotherBank file) = (file + 1 ≡ length files) × HasAnotherHead files
AreNoInput count files (Same same) = ⊥
AreNoInput count files OutOfMemory = Unit {0}

-- ---- the outcome of a task with files

-- nothing was done with this number of files of these ids, since one is one before it
abbrev pub IsNotBegun : ℕ → List (Option FileId) → List (List ℕ) → ℕ → ℕ → List ℕ → Type 0
IsNotBegun count ids files file before text = (length ids ≡ count) × IsSameFile ids file before × (files ≡ []) × (text ≡ [])

-- the result of a task with this number of files of these ids, of which these were read, if this text was written: that
-- with all of them as one input; or they are none, or one of them is one before it, and nothing was written
abbrev pub FilesEndAs : Task → ℕ → List (Option FileId) → List (List ℕ) → Result (Result Bool ScriptFault) FilesFault → List ℕ → Type 0
FilesEndAs task count ids files (Ok ran) text = AreFiles count ids × (length files ≡ count)
    × (input : List ℕ) × AreInput files input × (left : Option (List ℕ)) × DoesTask task ran (Some input) left text
FilesEndAs task count ids files (Err (Same same)) text = IsNotBegun count ids files same.file same.before text
FilesEndAs task count ids files (Err OutOfMemory) text = text ≡ []
FilesEndAs task count ids files (Err fault) text = AreFiles count ids × AreNoInput count files fault × (text ≡ [])

-- the result of closing the books by this number of files of these ids, of which these were read, if this text was
-- written: that by what they contain; or one of them is one before it, and nothing was written
abbrev pub ClosesFilesAs : NextBank → ℕ → List (Option FileId) → List (List ℕ) → Result Bool ClosingFault → List ℕ → Type 0
ClosesFilesAs ask count ids files (Ok closed) text = AreFiles count ids × ClosesAs ask count files (Ok closed) text
ClosesFilesAs ask count ids files (Err (SameJournal same)) text = IsNotBegun count ids files same.file same.before text
ClosesFilesAs ask count ids files (Err (Books NoMemory)) text = text ≡ []
ClosesFilesAs ask count ids files (Err (Books fault)) text = AreFiles count ids × ClosesAs ask count files (Err fault) text

-- ---- what is said of it

-- a fault of a line, or of all lines, in words after the name of its file
abbrev pub lines_message_of : List ℕ → ScriptFault → List ℕ
lines_message_of file fault = codes "rbbank: " ++ (file ++ (codes ": " ++ reason_of fault))

-- the exit status where files aren't one input
abbrev pub files_status_of : FilesFault → ℕ
files_status_of (Unread file) = 3
files_status_of (AnotherBank file) = 2
files_status_of (Same same) = 2
files_status_of OutOfMemory = 4
