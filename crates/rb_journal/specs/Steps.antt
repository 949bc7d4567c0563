-- Some lines of a run: what waits before and after them, and why no more were answered.
use Rattle.std.specs.Prelude.{◌≡◌, ℕ, ◌+◌, ◌<◌, ◌≤◌, ◌⊎◌, Bool, true, false, List, [], ◌++◌, length, drop, Option}
use Rattle.std.specs.Io.KnownBytes.{Consumes, IsAtEnd}
use Rattle.rb_lines.specs.Buffers.{Counts, IsWholeLine, left}
use Rattle.rb_lines.specs.Lines.{line_len, lines_of, whole_lines}
use Rattle.rb_lines.specs.declared.buffers.Buffers.{Buffers}
use Rattle.rb_lines.specs.declared.limits.TheConstants.{LINE_LIMIT, MOST_READS}
use Rattle.rb_journal.specs.Lines.{recovered}
use Rattle.rb_journal.specs.Run.{IsRunOfBatches, served_input}
use Rattle.rb_journal.specs.Turns.{Answers, AreTurns, IsOneBatch, Turn, lines_added, lines_answered, state_after, texts}
use Rattle.rb_journal.specs.Turns.{to_answer}
use Rattle.rb_journal.specs.declared.host.Host.{Ghosts as Hosts}
use Rattle.rb_journal.specs.declared.input.Input.{Ghosts}
use Rattle.rb_journal.specs.declared.journal.Journal.{Journal}
use Rattle.rb_journal.specs.declared.responder.JournaledResponder.{Ghosts as Responders}
use Rattle.rb_journal.specs.declared.waiting.Waiting.{Waiting}
use Rattle.rb_journal.specs.declared.waiting.Waiting.TheVariants.{Line, Long, Nothing}
use Rattle.rb_journal.specs.declared.work.Work.{Work}

-- what was answered by some moment: the state, the journal's lines, the text, what waits, the number of its first line,
-- and how many answers there were
pub record Point (S : Type 0) : Type 0 where
  pub state : S
  pub lines : List (List ℕ)
  pub text : List ℕ
  pub pending : List ℕ
  pub number : ℕ
  pub count : ℕ

abbrev pub point_of : {S : Type 0} → S → List (List ℕ) → List ℕ → Work → List ℕ → Point S
point_of state lines text work pending = record {
  state = state;
  lines = lines;
  text = text;
  pending = pending;
  number = work.number;
  count = work.count;
}

-- within a batch: the text of what was answered is still in the buffers
abbrev pub point_in : {S : Type 0} → S → List (List ℕ) → Buffers → Work → Point S
point_in state lines buffers work = point_of state lines buffers.buffered.items work buffers.pending

-- between two batches: what was answered is in the journal, and its text is put out
abbrev pub point_at : {R H : Type 0} → (r : Responders R) → Hosts H → R → Journal H → Work → Buffers → Point r.State
point_at r h responder journal work buffers =
    point_of (r.state responder) (recovered (h.content journal.host)) (h.output journal.host) work buffers.pending

-- what was answered is the same, and these bytes wait
abbrev pub waits : {S : Type 0} → Point S → List ℕ → Point S
waits p pending = record p { pending = pending }

-- and now more bytes, after those that waited
abbrev pub longer : {S : Type 0} → Point S → List ℕ → Point S
longer p more = waits p (p.pending ++ more)

-- a crash leaves this file, and this was put out, in a run from here on; this is still to be read, if that is known
abbrev pub IsRunFrom : {S : Type 0} → Answers S → Point S → Option (List ℕ) → List ℕ → List ℕ → Type 0
IsRunFrom answers p rest = IsRunOfBatches answers p.number (served_input p.pending rest) p.state p.lines p.text

-- these lines were taken off what waits, whatever is read after it; after the end of the input nothing is
pub record IsTaken (pending : List ℕ) (ended : Bool) (taken : List (List ℕ)) (left : List ℕ) : Type 0 where
  pub lines : (rest : List ℕ) → (ended ≡ true → rest ≡ []) →
      lines_of (pending ++ rest) ≡ taken ++ lines_of (left ++ rest)
  pub whole : ended ≡ false → (tail : List ℕ) → whole_lines (pending ++ tail) ≡ taken ++ whole_lines (left ++ tail)

-- some lines were taken, and each that isn't skipped was answered
pub record Advances {S : Type 0} (answers : Answers S) (ended : Bool) (old new : Point S) : Type 0 where
  pub turns : List (Turn S)
  pub taken : List (List ℕ)
  pub are : AreTurns answers old.state turns
  pub state_is : new.state ≡ state_after old.state turns
  pub lines_are : new.lines ≡ old.lines ++ lines_added turns
  pub text_is : new.text ≡ old.text ++ texts turns
  pub count_is : new.count ≡ old.count + length turns
  pub number_is : new.number ≡ old.number + length taken
  pub answered : lines_answered turns ≡ to_answer old.number taken
  pub taken_is : IsTaken old.pending ended taken new.pending

-- bytes were read, after what waited, and lines of both were answered; an input that had ended gave none, and still has
pub record Goes {S : Type 0} (answers : Answers S) (was is : Bool) (old new : Point S) (had has : Option (List ℕ)) : Type 0 where
  pub more : List ℕ
  pub read : Consumes had has more
  pub still : was ≡ true → (more ≡ []) × (is ≡ true)
  pub steps : Advances answers is (longer old more) new

-- some lines were taken and answered, by turns that are one batch
abbrev pub AdvancesByBatch : {S : Type 0} → Answers S → Bool → Point S → Point S → Type 0
AdvancesByBatch answers ended old new = (steps : Advances answers ended old new) × IsOneBatch steps.turns

-- what is at the front of the bytes that wait
abbrev pub IsWaiting : Buffers → Waiting → Type 0
IsWaiting b (Line n) = IsWholeLine b n
IsWaiting b Long = LINE_LIMIT < line_len b.pending
IsWaiting b Nothing = (line_len b.pending ≡ length b.pending) × (b.ended ≡ true → b.pending ≡ [])

-- the line at the front of what waited and of what was read after it was dropped, with its line feed, if it has one;
-- if it hasn't, the input has ended
pub record DropsLine (old new : Buffers) (had has : Option (List ℕ)) : Type 0 where
  pub more : List ℕ
  pub read : Consumes had has more
  pub still : old.ended ≡ true → (more ≡ []) × (new.ended ≡ true)
  pub whole : (line_len (old.pending ++ more) < length (old.pending ++ more))
      ⊎ ((line_len (old.pending ++ more) ≡ length (old.pending ++ more)) × (new.ended ≡ true))
  pub left : new.pending ≡ drop (line_len (old.pending ++ more) + 1) (old.pending ++ more)

-- the reader may be read from while what waits and what is read after it is the front of one line
abbrev pub MayReadOn : {I : Type 0} → Ghosts I → Buffers → I → List ℕ → Type 0
MayReadOn i buffers reader said = (more : List ℕ) (left : Option (List ℕ)) → Consumes (i.remaining reader) left more
    → buffers.ended ≡ false → line_len (buffers.pending ++ more) ≡ length (buffers.pending ++ more) → i.may_read reader left said

-- a read failed, or there were as many as there may be: what came is the front of one line, and the input hasn't ended
pub record ReadsOn {I : Type 0} (i : Ghosts I) (old new : Buffers) (was is : I) : Type 0 where
  pub more : List ℕ
  pub read : Consumes (i.remaining was) (i.remaining is) more
  pub one : line_len (old.pending ++ more) ≡ length (old.pending ++ more)
  pub going : new.ended ≡ false
  pub why : (i.failed is ≡ true) ⊎ (i.calls is ≡ MOST_READS)

-- what the reader may be asked is as before, each of its reads is counted, and an input that had ended still has
pub record ReadsAsBefore {I : Type 0} (i : Ghosts I) (old new : Buffers) (was is : I) : Type 0 where
  pub order : (still : Option (List ℕ)) (said : List ℕ) → i.may_read was still said → i.may_read is still said
  pub counted : Counts (i.calls is) new.reads
  pub was_going : new.ended ≡ false → old.ended ≡ false

-- one line less waits, and it is counted; nothing is to be put out, and the input has ended only if all of it was read
pub record IsNext {I : Type 0} (i : Ghosts I) (old new : Buffers) (had has : Work) (is : I) : Type 0 where
  pub buffered : new.buffered.items ≡ []
  pub fewer : new.reads ≤ old.reads
  pub left : left new < left old
  pub end : new.ended ≡ true → IsAtEnd (i.remaining is)
  pub number : has.number ≡ had.number + 1
