-- A line that is too long is answered.
use Rattle.std.proofs.Common.{arith, ◌≡◌, ◌+◌, ◌++◌, ◌∙◌, ℕ, List, [], take, ap, sym}
use Rattle.std.proofs.Common.{append-nil, refl}
use Rattle.std.proofs.lemmas.List.{append_cancel_left}
use Rattle.rb_lines.specs.Lines.{line_len}
use Rattle.rb_journal.specs.Host.{LeavesOnly}
use Rattle.rb_journal.specs.Lines.{recovered}
use Rattle.rb_journal.specs.Steps.{Advances, IsRunFrom, Point, longer, point_at}
use Rattle.rb_journal.specs.Turns.{IsTurn}
use Rattle.rb_journal.proofs.Advance.{alone, answers_one, long_answered}
use Rattle.rb_journal.proofs.Dropping.{dropped_first, dropped_fits, dropped_long}
use Rattle.rb_journal.proofs.Follow.{only_read, run_on, run_start}
use Rattle.rb_journal.proofs.Public.Moments.{started, weaker}
use Rattle.rb_journal.proofs.Runs.{durable_is_run}
use Rattle.rb_journal.proofs.long.answer_long_line.Given.{Over}
use Rattle.rb_journal.proofs.long.answer_long_line.Goals.{After-commit_and_put_out, After-drop_line}
use Rattle.rb_journal.proofs.long.answer_long_line.Goals as goal

-- the line
abbrev line : (g : Over) (c : After-commit_and_put_out g) → List ℕ
line g c = let all = c.args.buffers.now.pending ++ c.in_ok-drop_line.ensures.dropped.more in take (line_len all) all

-- the responder took it
turn : (g : Over) (c : After-commit_and_put_out g) → IsTurn g.R.JournaledResponder.answers
    (g.R.JournaledResponder.state c.args.responder.now) (g.R.JournaledResponder.state c.answer_long.new.self)
    (g.R.JournaledResponder.lines (g.R.JournaledResponder.state c.args.responder.now))
    (g.R.JournaledResponder.lines (g.R.JournaledResponder.state c.answer_long.new.self))
    [] [] c.args.work.now.number (line g c) c.drop_line.new.buffers.buffered.items c.answer_long.new.text.items
turn g c = c.in_ok-answer_long.ensures.answered (line g c)
    (dropped_long c.in_ok-drop_line.ensures.dropped c.requires.long)

-- before and after it
abbrev before : (g : Over) (c : After-commit_and_put_out g) → Point g.R.JournaledResponder.State
before g c =
    point_at g.R.JournaledResponder g.H.Host c.args.responder.now c.args.journal.now c.args.work.now c.args.buffers.now

abbrev after : (g : Over) (c : After-commit_and_put_out g) → Point g.R.JournaledResponder.State
after g c = record {
  state = g.R.JournaledResponder.state c.answer_long.new.self;
  lines = recovered (g.H.Host.content c.args.journal.now.host);
  text = g.H.Host.output c.args.journal.now.host ++ c.answer_long.new.text.items;
  pending = c.drop_line.new.buffers.pending;
  number = c.args.work.now.number + 1;
  count = c.args.work.now.count + 1;
}

-- its answer is one step, and adds no line
step : (g : Over) (c : After-commit_and_put_out g) → Advances g.R.JournaledResponder.answers c.drop_line.new.buffers.ended
    (longer (before g c) c.in_ok-drop_line.ensures.dropped.more) (after g c)
step g c =
    let t = turn g c in
    let dropped = c.in_ok-drop_line.ensures.dropped in
    let lines = recovered (g.H.Host.content c.args.journal.now.host) in
    let output = g.H.Host.output c.args.journal.now.host in
    let words : c.answer_long.new.text.items ≡ t.words = t.text_is ∙ ap (λ l. l ++ t.words) c.drop_line.ensures.buffered in
    answers_one (line_len (c.args.buffers.now.pending ++ dropped.more)) refl (dropped_fits dropped)
    (dropped_first dropped c.requires.long) {batch = []} (long_answered (line g c) (dropped_long dropped c.requires.long))
    (record {
      added = t.added;
      words = t.words;
      answered = t.answered;
      lines_are = sym (append-nil lines) ∙ ap (λ ls. lines ++ ls) t.batch_is;
      batch_is = t.batch_is;
      text_is = ap (λ l. output ++ l) words;
    })
    refl refl refl dropped.left refl refl

-- the responder's lines are those of the journal
same_lines : (g : Over) (c : After-commit_and_put_out g)
    → g.R.JournaledResponder.lines (g.R.JournaledResponder.state c.answer_long.new.self)
    ≡ recovered (g.H.Host.content c.args.journal.now.host)
same_lines g c =
    let t = turn g c in t.lines_are ∙ rw (c.requires.same, ← t.batch_is, append-nil)

-- no line is committed with it
none : (g : Over) (c : After-commit_and_put_out g)
    → recovered (g.H.Host.content c.args.journal.now.host) ++ recovered c.args.work.now.batch.bytes.items
    ≡ recovered (g.H.Host.content c.args.journal.now.host)
none g c = rw (c.requires.batch, append-nil)

pub returns-clause-same : goal.returns-clause-same
returns-clause-same g c = λ _.
    let p = (goal.at.returns-clause-same g c).After-commit_and_put_out in
    same_lines g p ∙ sym (c.in_ok-commit_and_put_out.ensures.lines ∙ none g p)

pub returns-clause-answered : goal.returns-clause-answered
returns-clause-answered g c =
    let output = g.H.Host.output c.args.journal.now.host in
    let p = (goal.at.returns-clause-answered g c).After-commit_and_put_out in
    let dropped = c.in_ok-drop_line.ensures.dropped in
    let kept : recovered (g.H.Host.content c.commit_and_put_out.new.self.host) ≡ recovered (g.H.Host.content c.args.journal.now.host) =
    c.in_ok-commit_and_put_out.ensures.lines ∙ none g p in
    let said : g.H.Host.output c.commit_and_put_out.new.self.host ≡ output ++ c.answer_long.new.text.items =
    c.in_ok-commit_and_put_out.ensures.output ∙ ap (λ l. output ++ l) c.deref.ensures.value in
    record { more = dropped.more; read = dropped.read; still = dropped.still; steps = rw (kept, said) (step g p) }

-- a crash leaves a prefix of the answer put out
moments : (g : Over) (c : After-commit_and_put_out g) → LeavesOnly g.H.Host.moment g.H.Host.left_since c.args.journal.now.host
    c.commit_and_put_out.new.self.host
    (IsRunFrom g.R.JournaledResponder.answers (before g c) (g.I.Input.remaining c.args.reader.now))
moments g c =
    let dropped = c.in_ok-drop_line.ensures.dropped in
    let end = c.in_ok-drop_line.ensures.end in
    let s = step g c in
    weaker g.H.Host.moment g.H.Host.left_since _ _ _ _ c.commit_and_put_out.ensures.any_moment
    (λ f d kept. run_on (only_read g.R.JournaledResponder.answers _ _ (before g c) dropped.more _ _ dropped.read dropped.still) end f d
    (durable_is_run _ c.args.work.now.batch.bytes.items end (sym (none g c)) (s, alone s.turns (omega (arith, s.count_is)))
    (c.deref.ensures.value ∙ append_cancel_left (g.H.Host.output c.args.journal.now.host) _ _ s.text_is) kept))

pub returns-in_err-commit_and_put_out-clause-any_moment : goal.returns-in_err-commit_and_put_out-clause-any_moment
returns-in_err-commit_and_put_out-clause-any_moment g c =
    moments g (goal.at.returns-in_err-commit_and_put_out-clause-any_moment g c).After-commit_and_put_out

pub returns-clause-any_moment : goal.returns-clause-any_moment
returns-clause-any_moment g c = moments g (goal.at.returns-clause-any_moment g c).After-commit_and_put_out

-- before that the journal is as it was
at_start : (g : Over) (c : After-drop_line g) → LeavesOnly g.H.Host.moment g.H.Host.left_since c.args.journal.now.host
    c.args.journal.now.host
    (IsRunFrom g.R.JournaledResponder.answers (point_at g.R.JournaledResponder g.H.Host c.args.responder.now c.args.journal.now
    c.args.work.now c.args.buffers.now) (g.I.Input.remaining c.args.reader.now))
at_start g c =
    let host = g.H.Host in
    let was = c.args.journal.now.host in
    started host.moment host.left_since was _ (λ f d left. let now = g.met.H.Host.only_now was f d left in
    run_start (ap recovered (c.requires.settled.durable f now.1)) now.2)

pub returns-in_err-drop_line-clause-any_moment : goal.returns-in_err-drop_line-clause-any_moment
returns-in_err-drop_line-clause-any_moment g c = at_start g (goal.at.returns-in_err-drop_line-clause-any_moment g c).After-drop_line

pub returns-in_err-answer_long-clause-any_moment : goal.returns-in_err-answer_long-clause-any_moment
returns-in_err-answer_long-clause-any_moment g c = at_start g (goal.at.returns-in_err-answer_long-clause-any_moment g c).After-drop_line
