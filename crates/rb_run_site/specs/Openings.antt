-- A site that is opened over a file, of which nothing is changed yet.
use Rattle.std.specs.Prelude.{◌≡◌, ◌⊎◌, ◌≤◌, ◌<◌, ◌+◌, ℕ, false, List, [], ◌∷◌, length, Option, Some, None, IfSome}
use Rattle.rb_money.specs.Settings.{Settings}
use Rattle.rb_history.specs.Configurations.{config_on}
use Rattle.rb_journal.specs.Lines.{IsDamaged, IsSealed, recovered}
use Rattle.rb_lines.specs.Lines.{is_blank, lines_of}
use Rattle.rb_site.specs.Seen.{IsReplayed}
use Rattle.rb_history.specs.Ids.{AskedEntry}
use Rattle.rb_node.specs.Asked.{AreIdsOnce, SeenAsked, first_asked, without_ids}
use Rattle.rb_node.specs.Replays.{IsReadWhole}
use Rattle.rb_node.specs.Resends.{sent_again}
use Rattle.rb_run_site.specs.Journals.{journal_head, journal_of, lines_of_entries}
use Rattle.rb_run_site.specs.Files.{BeginsWith, IsAnother, IsNoBeginning, IsUndamaged}
use Rattle.rb_run_site.specs.FirstLines.{HasReadBlanks, IsBehindBlanks, IsLongFirst, not_blank}
use Rattle.rb_run_site.specs.Replays.{EndsReplay, GoesOnBy}
use Rattle.rb_run_site.specs.declared.fault.SiteFault.{SiteFault}
use Rattle.rb_run_site.specs.declared.fault.SiteFault.TheVariants.{NoConfig, BadConfig, NoSite, AnotherJournal, BadEntry, WrongReply}
use Rattle.rb_run_site.specs.declared.fault.SiteFault.TheVariants.{Damaged, LongLine, Read, OutOfMemory, Sealed}
use Rattle.rb_run_site.specs.Starts.{IsJournalOf, IsOf}

-- the line that a journal is still to begin with: the configuration's, if it has no line
abbrev pub IsToBegin : List (List ℕ) → SeenAsked → List ℕ → Type 0
IsToBegin lines x first = ((lines ≡ []) × (first ≡ journal_head x.settings)) ⊎ ((lines ≡ journal_of x) × (first ≡ []))

-- the site went on by the file's entries, if it has any
pub record OpensFile (old new : SeenAsked) (file first sends : List ℕ) (most : ℕ) : Type 0 where
  pub settings : new.settings ≡ old.settings
  pub me : new.me ≡ old.me
  pub bank : new.bank ≡ old.bank
  pub replayed : IsReplayed (without_ids old) → IsReplayed (without_ids new)
  pub read : IsReadWhole old → IsReadWhole new
  pub once : AreIdsOnce old.asked → AreIdsOnce new.asked
  pub journal : IsJournalOf (recovered file) new
  pub begins : IsToBegin (recovered file) new first
  pub undamaged : IsUndamaged file (journal_head new.settings)
  pub sends_are : sends ≡ sent_again new.bank most (without_ids new)

-- why a site of a line isn't opened: the line, of this number, is no configuration; or it has no such site
abbrev pub EndsNode : List ℕ → ℕ → ℕ → SiteFault → Type 0
EndsNode line number me (BadConfig n) = (n ≡ number) × (config_on line ≡ None)
EndsNode line number me NoSite = (s : Settings) × (config_on line ≡ Some s) × (s.sites ≤ me)
EndsNode line number me OutOfMemory = Unit {0}
EndsNode line number me _ = ⊥

-- the file's whole lines are all replayed, and after them, at the place of the line of this number or of the gate, is
-- a byte that no crash leaves there
pub record IsDamagedBehind (old : SeenAsked) (file : List ℕ) (number : ℕ) : Type 0 where
  pub entries : List AskedEntry
  pub new : SeenAsked
  pub goes_on : GoesOnBy old new entries
  pub lines_are : recovered file ≡ journal_head old.settings ∷ lines_of_entries old.settings old.me entries
  pub damaged : IsDamaged file
  pub number_is : number ≡ length (recovered file) + 1

-- why a file isn't replayed: it is another's; a line of its entries isn't the site's next; it is damaged, at its
-- beginning or after its whole lines; or it is sealed
abbrev pub EndsFile : SeenAsked → List ℕ → SiteFault → Type 0
EndsFile old file AnotherJournal = IsAnother file (journal_head old.settings)
EndsFile old file (Damaged n) = ((n ≡ 1) × IsNoBeginning file (journal_head old.settings)) ⊎ IsDamagedBehind old file n
EndsFile old file (BadEntry n) = (entries : List ℕ) × BeginsWith file (journal_head old.settings) entries
    × EndsReplay old (recovered entries) (BadEntry n)
EndsFile old file (WrongReply n) = (entries : List ℕ) × BeginsWith file (journal_head old.settings) entries
    × EndsReplay old (recovered entries) (WrongReply n)
EndsFile old file Sealed = IsSealed file
EndsFile old file OutOfMemory = Unit {0}
EndsFile old file _ = ⊥

-- the site of the configuration on the line isn't opened over the file, for this fault
abbrev pub EndsOpening : ℕ → List ℕ → List ℕ → SiteFault → ℕ → List ℕ → Type 0
EndsOpening me bank file fault number line =
    (s : Settings) × (config_on line ≡ Some s) × (me < s.sites) × EndsFile (first_asked s me bank) file fault

-- the line of this number, or the file, is at fault
abbrev pub EndsOver : ℕ → List ℕ → List ℕ → ℕ → List ℕ → SiteFault → Type 0
EndsOver me bank file number line fault = EndsNode line number me fault ⊎ EndsOpening me bank file fault number line

-- why a site of the configuration on this line, which is line 1, isn't opened over the file: the file is sealed; or the
-- line or the file is at fault
abbrev pub EndsOnLine : ℕ → List ℕ → List ℕ → List ℕ → SiteFault → Type 0
EndsOnLine me bank file line fault = ((fault ≡ Sealed) × IsSealed file) ⊎ EndsOver me bank file 1 line fault

-- of the input's first line that isn't blank, and of its number, this holds
pub record HasFirstLine (input : Option (List ℕ)) (P : ℕ → List ℕ → Type 0) : Type 0 where
  pub number : ℕ
  pub line : List ℕ
  pub some : is_blank line ≡ false
  pub first : IfSome input (λ all. (later : List (List ℕ)) × IsBehindBlanks number (line ∷ later) all)
  pub holds : P number line

-- what a fault of the opening says of the input, of what is still to be read of it, and of the file's bytes: the input
-- has only blank lines; its first line that isn't blank is at fault, or the file is; the file is sealed; a line is too
-- long, and only blank lines are before it; or a read failed, and each whole line that was read is blank. Each other
-- fault says nothing
abbrev pub IsOpeningCause : ℕ → List ℕ → Option (List ℕ) → Option (List ℕ) → List ℕ → SiteFault → Type 0
IsOpeningCause me bank input left file NoConfig = IfSome input (λ all. not_blank (lines_of all) ≡ [])
IsOpeningCause me bank input left file (BadConfig n) =
    HasFirstLine input (λ number line. EndsNode line number me (BadConfig n))
IsOpeningCause me bank input left file NoSite = HasFirstLine input (λ number line. EndsNode line number me NoSite)
IsOpeningCause me bank input left file AnotherJournal = HasFirstLine input (EndsOpening me bank file AnotherJournal)
IsOpeningCause me bank input left file (BadEntry n) = HasFirstLine input (EndsOpening me bank file (BadEntry n))
IsOpeningCause me bank input left file (WrongReply n) = HasFirstLine input (EndsOpening me bank file (WrongReply n))
IsOpeningCause me bank input left file (Damaged n) = HasFirstLine input (EndsOpening me bank file (Damaged n))
IsOpeningCause me bank input left file Sealed = IsSealed file
IsOpeningCause me bank input left file (LongLine k) = IfSome input (IsLongFirst k)
IsOpeningCause me bank input left file Read = IfSome input (HasReadBlanks left)
IsOpeningCause me bank input left file _ = Unit {0}

-- the site of the configuration on a line went on by the file's entries
pub record OpensSite (config : List ℕ) (me : ℕ) (bank : List ℕ) (most : ℕ) (file : List ℕ) (x : SeenAsked)
    (first sends : List ℕ) : Type 0 where
  pub is_of : IsOf config me bank x
  pub replayed : IsReplayed (without_ids x)
  pub read : IsReadWhole x
  pub once : AreIdsOnce x.asked
  pub journal : IsJournalOf (recovered file) x
  pub begins : IsToBegin (recovered file) x first
  pub undamaged : IsUndamaged file (journal_head x.settings)
  pub sends_are : sends ≡ sent_again x.bank most (without_ids x)
