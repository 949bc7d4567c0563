-- A site with its journal in a file whose calls C makes.
use Rattle.std.specs.Prelude.{◌≡◌, ◌⊎◌, ◌<◌, ℕ, ℤ, pos, true, List, [], ◌∷◌, ◌++◌, length, Option, Some, None}
use Rattle.rb_journal.specs.Alone.{IsAnsweredAlone, AreEither}
use Rattle.rb_journal.specs.Calls.{NotedCall, content_of, leaves, left_since}
use Rattle.rb_journal.specs.Host.{LeavesOnly, Only}
use Rattle.rb_journal.specs.Lines.{at_rest, recovered}
use Rattle.rb_journal.specs.Planned.{found_event}
use Rattle.rb_node.specs.Asked.{SeenAsked}
use Rattle.rb_run_site.specs.Journals.{SiteAnswers, journal_of}
use Rattle.rb_run_site.specs.Openings.{OpensSite}
use Rattle.rb_run_site.specs.declared.fault.SiteFault.{SiteFault}
use Rattle.rb_capi.specs.Copies.{Copies}
use Rattle.rb_run_site.specs.declared.fault.SiteFault.TheVariants.{BadConfig, NoSite, AnotherJournal, BadEntry, WrongReply, Damaged, Sealed}

-- the site and the text of its last answer; the log of the calls that were made on its file, and those that are still to
-- be made, the next one last, each as it is noted once it has succeeded
pub record SeenJournal : Type 0 where
  pub site : SeenAsked
  pub answer : List ℕ
  pub made : List NotedCall
  pub left : List NotedCall

-- once the calls that are left are made, the file is the lines of the site's journal and a closed gate, all of it on the
-- disk
pub record IsOnDisk (j : SeenJournal) : Type 0 where
  pub file : content_of (j.left ++ j.made) ≡ at_rest (journal_of j.site)
  pub durable : Only (at_rest (journal_of j.site)) (leaves (j.left ++ j.made))

-- a crash at any moment while the calls that are left are made leaves these lines, or those of the site's journal
abbrev pub LeavesJournal : SeenJournal → List (List ℕ) → Type 0
LeavesJournal j before = LeavesOnly length left_since j.made (j.left ++ j.made) (λ c _. AreEither before (journal_of j.site) (recovered c))

-- the site of the configuration goes on by the entries of the file, as `rbbank site` does; the text is what is sent again
pub record OpensJournal (config : List ℕ) (me most : ℕ) (file : List ℕ) (j : SeenJournal) : Type 0 where
  pub first : List ℕ
  pub opens : OpensSite config me [] most file j.site first j.answer
  pub found : j.made ≡ found_event file ∷ []
  pub any_moment : LeavesJournal j (recovered file)
  pub on_disk : IsOnDisk j

-- the line of this number is answered as `rbbank site` answers it
pub record AnswersJournalLine (old new : SeenJournal) (number : ℕ) (line : List ℕ) : Type 0 where
  pub batch : List (List ℕ)
  pub answered : IsAnsweredAlone (SiteAnswers true) old.site new.site (journal_of old.site) (journal_of new.site) batch number line
      new.answer
  pub made : new.made ≡ old.made
  pub any_moment : LeavesJournal new (journal_of old.site)
  pub on_disk : IsOnDisk new

-- the next call was made, and succeeded
pub record HasMade (old new : SeenJournal) : Type 0 where
  pub call : NotedCall
  pub left : old.left ≡ new.left ++ call ∷ []
  pub made : new.made ≡ call ∷ old.made
  pub site : new.site ≡ old.site
  pub answer : new.answer ≡ old.answer

-- nothing has changed
pub record IsAsBefore (old new : SeenJournal) : Type 0 where
  pub site : new.site ≡ old.site
  pub answer : new.answer ≡ old.answer
  pub made : new.made ≡ old.made
  pub left : new.left ≡ old.left

-- the text that may be seen: the last answer, once no call is left; and none if there is no site
abbrev pub answer_behind : List NotedCall → List ℕ → List ℕ
answer_behind [] answer = answer
answer_behind (call ∷ left) answer = []

abbrev pub shown_text : Option SeenJournal → List ℕ
shown_text None = []
shown_text (Some j) = answer_behind j.left j.answer

-- ---- why no site is opened

abbrev pub open_status : SiteFault → ℕ
open_status (BadConfig n) = 2
open_status NoSite = 3
open_status AnotherJournal = 5
open_status (BadEntry n) = 6
open_status (WrongReply n) = 7
open_status (Damaged n) = 8
open_status Sealed = 9
open_status _ = 4

-- the number of the journal's line that is wrong, from 1, or 0
abbrev pub open_number : SiteFault → ℕ
open_number (BadEntry n) = n
open_number (WrongReply n) = n
open_number (Damaged n) = n
open_number _ = 0

-- ---- what C finds

abbrev pub calls_left : Option SeenJournal → List NotedCall
calls_left None = []
calls_left (Some j) = j.left

-- C finds the call that is to be made next, by its kind: its number, its bytes at the beginning of the buffer, as much
-- of them as there is capacity for, and how many there are; or no call is left, and the kind is 0
abbrev pub HandsCall : List NotedCall → List ℕ → List ℕ → ℕ → ℕ → ℤ → Type 0
HandsCall left before after length at kind = ((left ≡ []) × (kind ≡ pos 0) × (at ≡ 0) × Copies [] before after length)
    ⊎ ((later : List NotedCall) × (k : ℕ) × (bytes : List ℕ) × (left ≡ later ++ (k, at, true, bytes) ∷ []) × (kind ≡ pos k)
    × (0 < k) × Copies bytes before after length)
