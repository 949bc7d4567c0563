-- The files and outputs that a run of a site may leave at any moment.
use Rattle.std.specs.Prelude.{◌≡◌, ◌⊎◌, ℕ, Bool, List, [], ◌++◌, Option, Some, IfSome}
use Rattle.rb_lines.specs.Lines.{lines_of}
use Rattle.rb_journal.specs.Host.{AddsPrefix}
use Rattle.rb_journal.specs.Lines.{IsIntact, recovered}
use Rattle.rb_journal.specs.Run.{AreFirst}
use Rattle.rb_journal.specs.Turns.{AreTurns, Turn, lines_added, texts}
use Rattle.rb_node.specs.Asked.{SeenAsked, without_ids}
use Rattle.rb_node.specs.Resends.{sent_again}
use Rattle.rb_run_site.specs.Files.{IsNew}
use Rattle.rb_run_site.specs.Journals.{SiteAnswers, journal_head, journal_of}
use Rattle.rb_run_site.specs.Starts.{IsBehind, Starts}

-- a run of a site: whether it records all events or those that change the site, the site's number, the bytes of its
-- bank's name, how many of its last entries are sent again, and the bytes of its input, where they are known
pub record SiteRun : Type 0 where
  pub all : Bool
  pub me : ℕ
  pub bank : List ℕ
  pub most : ℕ
  pub input : Option (List ℕ)

-- what it finds: the bytes of the journal's file, and what was put out before
pub record Found : Type 0 where
  pub file : List ℕ
  pub output : List ℕ

-- these bytes are what comes after this configuration's line in the input, and their first line has this number
abbrev pub AreBytesBehind : List ℕ → ℕ → Option (List ℕ) → List ℕ → Type 0
AreBytesBehind config number behind input = (bytes : List ℕ) × (behind ≡ Some bytes) × IsBehind config number (lines_of bytes) input

-- the file is the journal of a site with the entries of some turns, in which all events are recorded or those that
-- change the site. They answer the first lines of these bytes, in order, and skip none that has an answer; the first
-- has this number. A prefix of what is sent again, and then of the texts of these turns, was put out; and the file
-- isn't damaged
pub record HasAnswered (all : Bool) (x : SeenAsked) (sends : List ℕ) (number : ℕ) (bytes : Option (List ℕ))
    (output c d : List ℕ) :
    Type 0 where
  pub turns : List (Turn SeenAsked)
  pub are : AreTurns (SiteAnswers all) x turns
  pub in_order : IfSome bytes (AreFirst number turns)
  pub lines_are : recovered c ≡ journal_of x ++ lines_added turns
  pub intact : IsIntact c
  pub output_is : AddsPrefix output (sends ++ texts turns) d

-- a journal had no lines and is still a new one of the site, and nothing was put out
pub record IsStillNew (lines : List (List ℕ)) (x : SeenAsked) (output c d : List ℕ) : Type 0 where
  pub none : lines ≡ []
  pub is_new : IsNew c (journal_head x.settings)
  pub silent : d ≡ output

-- a journal that had these lines is still new; or a site has answered
abbrev pub IsNewOrAnswered : Bool → List (List ℕ) → SeenAsked → List ℕ → ℕ → Option (List ℕ) → List ℕ → List ℕ → List ℕ
    → Type 0
IsNewOrAnswered all lines x sends number bytes output c d =
    IsStillNew lines x output c d ⊎ HasAnswered all x sends number bytes output c d

-- the site that the input's first line and the journal's lines say has answered some of the lines after
pub record HasRun (run : SiteRun) (lines : List (List ℕ)) (output c d : List ℕ) : Type 0 where
  pub start : SeenAsked
  pub starts : Starts run.me run.bank run.input lines start
  pub number : ℕ
  pub behind : Option (List ℕ)
  pub behind_is : IfSome run.input (AreBytesBehind starts.config number behind)
  pub answered : HasAnswered run.all start (sent_again start.bank run.most (without_ids start)) number behind output c d

-- the journal of the site that the input's first line says had no lines, and is still a new one
pub record HasBegun (me : ℕ) (bank : List ℕ) (input : Option (List ℕ)) (lines : List (List ℕ)) (output c d : List ℕ) : Type 0 where
  pub start : SeenAsked
  pub starts : Starts me bank input lines start
  pub still_new : IsStillNew lines start output c d

-- nothing has changed, or a journal that was new still is
abbrev pub HasNotRun : SiteRun → Found → List ℕ → List ℕ → Type 0
HasNotRun run old c d = ((c ≡ old.file) × (d ≡ old.output)) ⊎ HasBegun run.me run.bank run.input (recovered old.file) old.output c d

-- at any moment nothing has changed yet, or the journal is still new, or the site has answered some lines: whatever was
-- put out of their answers, their entries are in the file
abbrev pub IsSiteRun : SiteRun → Found → List ℕ → List ℕ → Type 0
IsSiteRun run old c d = HasNotRun run old c d ⊎ HasRun run (recovered old.file) old.output c d
