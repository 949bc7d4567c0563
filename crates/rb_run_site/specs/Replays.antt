-- The lines of a journal, replayed at a site.
use Rattle.std.specs.Prelude.{◌≡◌, ◌≢◌, ℕ, ◌+◌, ◌<◌, Bool, if◌then◌else◌, List, [], ◌∷◌, ◌++◌, length, Some, None}
use Rattle.serde_json.specs.Written.{compact_text}
use Rattle.rb_journal.specs.Lines.{IsBatch, recovered}
use Rattle.rb_site.specs.Events.{sent_at}
use Rattle.rb_site.specs.Histories.{events_of}
use Rattle.rb_site.specs.Seen.{next_sites}
use Rattle.rb_history.specs.Entries.{asked_entry_json, asked_entry_on}
use Rattle.rb_history.specs.Fits.{Each}
use Rattle.rb_history.specs.Ids.{AskedEntry}
use Rattle.rb_node.specs.Answers.{SeenNode, sent_line}
use Rattle.rb_node.specs.Asked.{AreIdsOnce, SeenAsked, asked_state, entries_alone, known_of, without_ids, with_more}
use Rattle.rb_node.specs.Replays.{IsNotNext, IsReadBack, IsReplayedAs}
use Rattle.rb_node.specs.Resends.{resent}
use Rattle.rb_run_site.specs.Journals.{lines_of_entries}
use Rattle.rb_run_site.specs.declared.fault.SiteFault.{SiteFault}
use Rattle.rb_run_site.specs.declared.fault.SiteFault.TheVariants.{BadEntry, WrongReply}
use Rattle.rb_run_site.specs.declared.fault.SiteFault.TheVariants.{OutOfMemory}

-- the site went on by these entries, each of which is its answer to the event, and no two of which have one id
pub record GoesOnBy (old new : SeenAsked) (xs : List AskedEntry) : Type 0 where
  pub after : without_ids new ≡ next_sites (without_ids old) (events_of (entries_alone xs))
  pub entries : new ≡ with_more old xs
  pub once : AreIdsOnce old.asked → AreIdsOnce new.asked

-- the lines of a journal are these entries' of the site, each of which is read from its line, and the site goes on by
-- them; what they sent, but for a number of the first, is added
pub record ReplaysLines (old new : SeenAsked) (lines : List (List ℕ)) (skipped : ℕ)
    (sends sends_after : List ℕ) : Type 0 where
  pub entries : List AskedEntry
  pub goes_on : GoesOnBy old new entries
  pub lines_are : lines ≡ lines_of_entries old.settings old.me entries
  pub read : Each (IsReadBack old.settings old.me) entries
  pub sends_are : sends_after ≡ sends ++ resent old.settings old.bank (asked_state old) skipped (entries_alone entries)

-- a line is no entry of the site, as it is written, or one whose id is that of an entry before
abbrev pub IsNoEntry : SeenAsked → List ℕ → Type 0
IsNoEntry x line = (e : AskedEntry) → asked_entry_on x.settings line ≡ Some (x.me, e) → known_of x e.id ≡ None
    → line ≢ compact_text (asked_entry_json x.settings x.me e)

-- a line is an entry that isn't the site's next: its history is full, or it gives another reply
abbrev pub IsOtherwise : SeenAsked → List ℕ → Type 0
IsOtherwise x line = (e : AskedEntry) × (line ≡ compact_text (asked_entry_json x.settings x.me e))
    × IsReadBack x.settings x.me e × IsNotNext x e

-- lines are this one, with its line feed, and then those of these bytes
pub record IsSplit (lines line later : List ℕ) : Type 0 where
  pub lines_are : recovered lines ≡ (line ++ 10 ∷ []) ∷ recovered later
  pub batch : IsBatch later
  pub shorter : length later < length lines

-- the line of an entry was read as the entry, which was replayed; what it sent is added, if it is sent again
pub record ReplaysLine (old : SeenAsked) (new : SeenNode) (line : List ℕ) (again : Bool)
    (sends sends_after : List ℕ) : Type 0 where
  pub entry : AskedEntry
  pub line_is : line ≡ compact_text (asked_entry_json old.settings old.me entry)
  pub read : IsReadBack old.settings old.me entry
  pub replayed : IsReplayedAs old new entry
  pub sends_are : sends_after ≡ sends
      ++ (if again then sent_line old.settings old.bank (sent_at old.settings (asked_state old) entry.entry.event) else [])

-- why the line of this number isn't replayed
abbrev pub StopsAtLine : SeenAsked → List ℕ → ℕ → SiteFault → Type 0
StopsAtLine old line number (BadEntry n) = (n ≡ number) × IsNoEntry old line
StopsAtLine old line number (WrongReply n) = (n ≡ number) × IsOtherwise old line
StopsAtLine old line number OutOfMemory = Unit {0}
StopsAtLine old line number _ = ⊥

-- the line of this number, the first of which has the number 2, stops the replay at a site that went on by those before
pub record StopsReplay (old : SeenAsked) (lines : List (List ℕ)) (number : ℕ)
    (P : SeenAsked → List ℕ → Type 0) : Type 0 where
  pub entries : List AskedEntry
  pub mid : SeenAsked
  pub goes_on : GoesOnBy old mid entries
  pub line : List ℕ
  pub later : List (List ℕ)
  pub lines_are : lines ≡ lines_of_entries old.settings old.me entries ++ (line ++ 10 ∷ []) ∷ later
  pub read : Each (IsReadBack old.settings old.me) entries
  pub number_is : number ≡ 2 + length entries
  pub stops : P mid line

-- why lines aren't replayed whole
abbrev pub EndsReplay : SeenAsked → List (List ℕ) → SiteFault → Type 0
EndsReplay old lines (BadEntry n) = StopsReplay old lines n IsNoEntry
EndsReplay old lines (WrongReply n) = StopsReplay old lines n IsOtherwise
EndsReplay old lines OutOfMemory = Unit {0}
EndsReplay old lines _ = ⊥
