use Rattle.std.proofs.Common.{arith, rules, ◌≡◌, ◌+◌, Err, ap, length-drop}
use Rattle.std.proofs.lemmas.Bool.{false_from_ne_true}
use Rattle.rb_lines.proofs.Made.{made_last, made_line, made_read}
use Rattle.rb_lines.proofs.Progress.{ends_at_fault, ends_here, ends_no_line, goes_on, reads_on}
use Rattle.rb_lines.proofs.Silent.{no_write, none_still, same_reason, silent_line, silent_read}
use Rattle.rb_lines.specs.declared.no_line.NoLine.TheVariants.{Write}
use Rattle.rb_lines.proofs.run.answer_lines.Goals as goal

pub returns-in-Err-clause-written : goal.returns-in-Err-clause-written
returns-in-Err-clause-written g c =
    let next = c.in-Err.ensures in
    rw (c.fault_at.ensures, c.number.ensures)
    (ends_no_line _ _ (g.W.Sink.contents c.lines.writer) _ _ (g.S.Source.remaining c.lines.reader) _ _ _ _ _ _ _ _ c.in-Err.why
    c.lines.invariant.written (g.met.R.Responder.is_run_state c.lines.responder) next.kept next.was_going next.sent
    (λ e. next.long (ap Err e)) (λ e. next.read (ap Err e)) (λ e. next.front (ap Err e)))

pub returns-in-Err-clause-silent : goal.returns-in-Err-clause-silent
returns-in-Err-clause-silent g c silent =
    let next = c.in-Err.ensures in
    let kept = c.lines.invariant.silent in
    let not = no_write c.in-Err.why c.lines.buffers.buffered.items (kept silent).2 (λ e. next.nothing (ap Err e)) in
    let (now, sent, none) = silent_read (g.R.Responder.state c.args.responder.now) (g.R.Responder.state c.lines.responder) _ _ _ _ _
    kept (next.sent not) silent in
    (sent, false_from_ne_true _ (λ t. not (same_reason c.in-Err.why Write (next.write.1 t))), none)

pub returns-in-Ok-None-clause-written : goal.returns-in-Ok-None-clause-written
returns-in-Ok-None-clause-written g c =
    let next = c.in-Ok-None.ensures in
    let last = rw c.in-Ok-None.field-0-is at next.line in
    let now = reads_on _ _ _ _ _ _ _ _ _ _ _ _ _ _ c.lines.invariant.written next.kept next.was_going next.sent in
    ends_here _ _ _ _ _ _ _ _ _ _ now last.0 (next.end last.1) c.end.ensures

pub returns-in-Ok-None-clause-made : goal.returns-in-Ok-None-clause-made
returns-in-Ok-None-clause-made g c =
    let next = c.in-Ok-None.ensures in
    let last = rw c.in-Ok-None.field-0-is at next.line in
    let first = g.R.Responder.made c.args.responder.now in
    let made = g.R.Responder.made c.lines.responder in
    let now = made_read first made _ _ _ _ _ c.lines.invariant.made next.kept in
    made_last _ first made _ _ _ now last.0 (next.end last.1)

pub returns-in-Ok-None-clause-silent : goal.returns-in-Ok-None-clause-silent
returns-in-Ok-None-clause-silent g c silent =
    let next = c.in-Ok-None.ensures in
    let (now, sent, none) = silent_read (g.R.Responder.state c.args.responder.now) (g.R.Responder.state c.lines.responder) _ _ _ _ _
    c.lines.invariant.silent next.sent silent in
    (sent, false_from_ne_true _ (λ t. cc (next.write.1 t)), none)

pub returns-in_err-answer_line-clause-written : goal.returns-in_err-answer_line-clause-written
returns-in_err-answer_line-clause-written g c =
    let next = c.in-Ok-Some.ensures in
    let at_front = rw c.in-Ok-Some.field-0-is at next.line in
    let now = reads_on _ _ _ _ _ _ _ _ _ _ _ _ _ _ c.lines.invariant.written next.kept next.was_going next.sent in
    let answered = rw c.as_slice.ensures at c.in_err-answer_line.ensures.answered in
    let passed : c.from_residual.result ≡ Err c.in_err-answer_line.field-0.0 = search rules in
    rw passed (ends_at_fault _ _ _ _ _ _ _ _ _ _ c.in-Ok-Some.n _ now at_front.0 at_front.2 at_front.3 next.end answered)

pub returns-in_err-answer_line-clause-silent : goal.returns-in_err-answer_line-clause-silent
returns-in_err-answer_line-clause-silent g c silent =
    let next = c.in-Ok-Some.ensures in
    let (now, sent, none) = silent_read (g.R.Responder.state c.args.responder.now) (g.R.Responder.state c.lines.responder) _ _ _ _ _
    c.lines.invariant.silent next.sent silent in
    (sent, false_from_ne_true _ (λ t. cc (next.write.1 t)), none_still _ _ c.in_err-answer_line.ensures.answered.0 none)

pub lines-preserved : goal.lines-preserved
lines-preserved g c =
    let next = c.in-Ok-Some.ensures in
    let at_front = rw c.in-Ok-Some.field-0-is at next.line in
    let now = reads_on _ _ _ _ _ _ _ _ _ _ _ _ _ _ c.lines.invariant.written next.kept next.was_going next.sent in
    let answered = rw c.as_slice.ensures at c.in_ok-answer_line.ensures.answered in
    let made = rw c.as_slice.ensures at c.in_ok-answer_line.ensures.made in
    let rest = length-drop (c.in-Ok-Some.n + 1) c.next_line.new.self.pending in
    let state = g.R.Responder.state in
    let first = g.R.Responder.made c.args.responder.now in
    let before = g.R.Responder.made c.lines.responder in
    record {
      counted = rw c.skip_line.ensures next.counted;
      fresh = false_from_ne_true _ (λ t. cc (next.write.1 t));
      end = rw c.skip_line.ensures next.end;
      number = rw c.skip_line.ensures (omega (arith, rest, answered.2.number, next.left, at_front.3, c.lines.invariant.number));
      count = omega (arith, answered.2.number, answered.2.one, c.lines.invariant.count);
      written = rw c.skip_line.ensures (goes_on _ _ _ _ _ _ _ _ _ _ _ c.in-Ok-Some.n now at_front.0 at_front.2 at_front.3 next.end
          answered);
      made = rw c.skip_line.ensures (made_line first before (g.R.Responder.made c.answer_line.new.self) _ _ _ _ c.in-Ok-Some.n
          (made_read first before _ _ _ _ _ c.lines.invariant.made next.kept) at_front.0 at_front.2 at_front.3 next.end made);
      silent = rw c.skip_line.ensures (silent_line (state c.args.responder.now) (state c.lines.responder)
          (state c.answer_line.new.self) _ _ _ _ _
          (silent_read (state c.args.responder.now) (state c.lines.responder) _ _ _ _ _ c.lines.invariant.silent next.sent)
          answered);
    }
