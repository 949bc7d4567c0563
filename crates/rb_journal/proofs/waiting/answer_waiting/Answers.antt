-- One line more.
use Rattle.std.proofs.Common.{rules, arith, ◌<◌, ◌++◌, ◌∙◌, [], length, ap, sym, subst, append-nil, inl, inr, refl}
use Rattle.rb_journal.specs.Lines.{recovered}
use Rattle.rb_lines.specs.declared.buffers.Buffers.{Buffers}
use Rattle.rb_journal.specs.Steps.{Advances, AdvancesByBatch, Point, point_in}
use Rattle.rb_journal.proofs.Advance.{batch_then, few_so_far, none_yet}
use Rattle.rb_journal.proofs.waiting.answer_waiting.Given.{Over}
use Rattle.rb_journal.proofs.waiting.answer_waiting.Goals.{After-next_waiting-next}
use Rattle.rb_journal.proofs.waiting.answer_waiting.Goals as goal

pub lines-init : goal.lines-init
lines-init g c =
    let state = g.R.JournaledResponder.state c.args.responder.now in
    let lines = g.R.JournaledResponder.lines state in
    record {
      answered = none_yet (point_in state lines c.args.buffers.now c.args.work.now);
      batch = sym (append-nil lines) ∙ ap (λ l. lines ++ recovered l) (sym c.requires.batch);
      reads = search rules;
      ended = search rules;
      number = omega arith;
      shorter = omega arith;
      begun = inl (c.requires.batch, c.requires.buffered);
    }

pub lines-preserved : goal.lines-preserved
lines-preserved g c =
    let inv = c.lines.invariant in
    let step = c.in_ok-answer_next.ensures in
    let same = c.next_waiting-next.ensures.same in
    let state = g.R.JournaledResponder.state in
    let lines = g.R.JournaledResponder.lines in
    let first = state c.args.responder.now in
    let now = state c.lines.responder in
    let new = state c.answer_next.new.responder in
    let mid = point_in now (lines now) c.lines.buffers c.lines.work in
    let end = point_in new (lines new) c.answer_next.new.buffers c.answer_next.new.work in
    let next : Advances g.R.JournaledResponder.answers c.args.buffers.now.ended mid end =
    subst (λ e. Advances g.R.JournaledResponder.answers e mid end) inv.ended
    (subst (λ (b : Buffers). Advances g.R.JournaledResponder.answers b.ended (point_in now (lines now) b c.lines.work) end) same
    step.answered) in
    let few = few_so_far c.lines.work.batch.bytes.items inv.answered.0 inv.batch c.lines.work.batch.whole c.requires.buffered
    (search rules) (search rules) in
    let fewer : length c.answer_next.new.buffers.pending < length c.args.buffers.now.pending =
    omega (arith, step.number.1, ap (λ (b : Buffers). length b.pending) same, inv.shorter) in
    record {
      answered = batch_then inv.answered next few step.one;
      batch = step.batch (lines first) inv.batch;
      reads = step.reads ∙ ap (λ (b : Buffers). b.reads) same ∙ inv.reads;
      ended = step.ended ∙ ap (λ (b : Buffers). b.ended) same ∙ inv.ended;
      number = omega (arith, step.number.0, step.number.1, ap (λ (b : Buffers). length b.pending) same, inv.number);
      shorter = omega (arith, fewer);
      begun = inr fewer;
    }

-- what was answered before the next line
so_far : (g : Over) (c : After-next_waiting-next g) → AdvancesByBatch g.R.JournaledResponder.answers c.args.buffers.now.ended
    (point_in (g.R.JournaledResponder.state c.args.responder.now)
    (g.R.JournaledResponder.lines (g.R.JournaledResponder.state c.args.responder.now)) c.args.buffers.now c.args.work.now)
    (point_in (g.R.JournaledResponder.state c.lines.responder)
    (g.R.JournaledResponder.lines (g.R.JournaledResponder.state c.args.responder.now)
    ++ recovered c.lines.work.batch.bytes.items) c.next_waiting-next.new.buffers c.lines.work)
so_far g c = rw (c.next_waiting-next.ensures.same, ← c.lines.invariant.batch) c.lines.invariant.answered

pub returns-in_default-clause-answered : goal.returns-in_default-clause-answered
returns-in_default-clause-answered g c =
    let at = goal.at.returns-in_default-clause-answered g c in
    (g.R.JournaledResponder.state c.lines.responder, so_far g at.After-next_waiting-next, refl)

pub returns-then-len-gt-MOST_BATCHED-clause-answered : goal.returns-then-len-gt-MOST_BATCHED-clause-answered
returns-then-len-gt-MOST_BATCHED-clause-answered g c = (
  g.R.JournaledResponder.state c.lines.responder,
  so_far g (goal.at.returns-then-len-gt-MOST_BATCHED-clause-answered g c).After-next_waiting-next,
  refl,
)

-- what was answered before the line that isn't
pub returns-in_err-answer_next-clause-answered : goal.returns-in_err-answer_next-clause-answered
returns-in_err-answer_next-clause-answered g c =
    let state = g.R.JournaledResponder.state in
    let lines = g.R.JournaledResponder.lines (state c.args.responder.now) in
    let last = state c.lines.responder in
    let step = c.in_err-answer_next.ensures in
    let start = point_in (state c.args.responder.now) lines c.args.buffers.now c.args.work.now in (
      last,
      subst (AdvancesByBatch g.R.JournaledResponder.answers c.args.buffers.now.ended start) (sym (step.same last lines))
          (so_far g (goal.at.returns-in_err-answer_next-clause-answered g c).After-next_waiting-next),
      search rules,
    )

pub returns-in_err-answer_next-clause-number : goal.returns-in_err-answer_next-clause-number
returns-in_err-answer_next-clause-number g c =
    let same = c.in_err-answer_next.ensures.same (g.R.JournaledResponder.state c.lines.responder) [] in
    omega (
      arith,
      ap (λ (p : Point g.R.JournaledResponder.State). p.number) same,
      ap (λ (p : Point g.R.JournaledResponder.State). length p.pending) same,
      ap (λ (b : Buffers). length b.pending) c.next_waiting-next.ensures.same,
      c.lines.invariant.number,
    )
