-- The state of a run after a group, and after a line that is too long: how far it has come, and what a crash leaves.
use Rattle.std.proofs.Common.{◌≡◌, ◌∙◌, ℕ, true, List, sym}
use Rattle.std.specs.Io.KnownBytes.{IsAtEnd}
use Rattle.rb_journal.specs.Host.{LeavesOnly}
use Rattle.rb_journal.specs.Lines.{IsIntact}
use Rattle.rb_journal.specs.Steps.{Goes, IsRunFrom, point_at}
use Rattle.rb_journal.proofs.Follow.{moments_on, more_taken, starting}
use Rattle.rb_journal.proofs.Public.Moments.{runs_on}
use Rattle.rb_journal.proofs.run.serve.Given.{Over}
use Rattle.rb_journal.proofs.run.serve.Goals.{After-answer_group, After-answer_long_line, In_ok-answer_group}
use Rattle.rb_journal.proofs.run.serve.Goals as goal

-- one call more leaves no damaged file
pub then_intact : {H : Type 0} {moment : H → ℕ} {left_since : H → ℕ → List ℕ → List ℕ → Type 0} {old mid new : H}
    → LeavesOnly moment left_since old mid (λ f d. IsIntact f) → LeavesOnly moment left_since mid new (λ f d. IsIntact f)
    → LeavesOnly moment left_since old new (λ f d. IsIntact f)
then_intact {moment = m} {left_since = l} {old = x} {mid = y} {new = z} so_far then_on =
    runs_on m l x y z (λ f d. IsIntact f) (λ f d. IsIntact f) so_far then_on (λ f d at. at)

-- at each moment of the calls so far, and of the batch that was answered now
pub moments : (g : Over) (c : After-answer_group g) → LeavesOnly g.H.Host.moment g.H.Host.left_since c.args.journal.now.host
    c.answer_group.new.journal.host (IsRunFrom g.R.JournaledResponder.answers (starting g.R.JournaledResponder g.H.Host
    c.args.responder.now c.args.journal.now c.args.number c.args.buffers.now.pending) (g.I.Input.remaining c.args.reader.now))
moments g c =
    let inv = c.batches.invariant in
    moments_on inv.follows inv.end inv.any_moment (c.answer_group.ensures.any_moment _ inv.end)

-- how far the run has come
pub here : (g : Over) (c : In_ok-answer_group g) → Goes g.R.JournaledResponder.answers c.args.buffers.now.ended
    c.answer_group.new.buffers.ended
    (starting g.R.JournaledResponder g.H.Host c.args.responder.now c.args.journal.now c.args.number c.args.buffers.now.pending)
    (point_at g.R.JournaledResponder g.H.Host c.answer_group.new.responder c.answer_group.new.journal c.answer_group.new.work
    c.answer_group.new.buffers) (g.I.Input.remaining c.args.reader.now) (g.I.Input.remaining c.batches.reader)
here g c = more_taken c.batches.invariant.follows c.in_ok-answer_group.ensures.answered c.answer_group.ensures.ended

-- the input has ended only if all of it was read
pub ended_here : (g : Over) (c : After-answer_group g) → c.answer_group.new.buffers.ended ≡ true
    → IsAtEnd (g.I.Input.remaining c.batches.reader)
ended_here g c ended = c.batches.invariant.end (sym c.answer_group.ensures.ended ∙ ended)

-- the same after a line that is too long
pub long_moments : (g : Over) (c : After-answer_long_line g) → LeavesOnly g.H.Host.moment g.H.Host.left_since c.args.journal.now.host
    c.answer_long_line.new.journal.host (IsRunFrom g.R.JournaledResponder.answers (starting g.R.JournaledResponder g.H.Host
    c.args.responder.now c.args.journal.now c.args.number c.args.buffers.now.pending) (g.I.Input.remaining c.args.reader.now))
long_moments g c =
    let at = goal.at.After-answer_long_line g c in
    moments_on (here g at.In_ok-answer_group) (ended_here g at.After-answer_group) (moments g at.After-answer_group)
    c.answer_long_line.ensures.any_moment
