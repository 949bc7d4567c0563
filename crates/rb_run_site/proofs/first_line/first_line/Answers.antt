use Rattle.std.proofs.Common.{arith, ◌≡◌, ◌<◌, ◌+◌, ◌∙◌, Err, ap, sym, true, false, take, length, length-drop}
use Rattle.std.proofs.lemmas.Bool.{false_from_ne_true}
use Rattle.rb_lines.specs.Buffers.{left}
use Rattle.rb_lines.specs.Lines.{is_blank}
use Rattle.rb_run_site.proofs.Blanks.{known_end, known_found, known_line, known_long, known_read, known_start}
use Rattle.rb_run_site.proofs.Blanks.{known_stop}
use Rattle.rb_run_site.proofs.Buffered.{still_none}
use Rattle.rb_run_site.proofs.first_line.first_line.Goals as goal

pub lines-init : goal.lines-init
lines-init g c = record {
  counted = omega (arith, c.requires.unread, c.requires.reads);
  fresh = c.requires.fresh;
  end = λ e. absurd (cc (e, c.requires.going));
  buffered = c.requires.buffered;
  one = omega arith;
  number = omega (arith, ap length c.requires.pending, c.requires.reads);
  input = known_start _ _ _ c.requires.pending c.requires.going;
}

pub returns-in-Err-TooLong-clause-input : goal.returns-in-Err-TooLong-clause-input
returns-in-Err-TooLong-clause-input g c =
    let next = c.in-Err-TooLong.ensures in
    known_long _ _ _ _ _
    (known_read _ _ _ _ _ _ _ _ c.lines.invariant.input ((rw c.in-Err-TooLong.field-0-is at next.kept) (λ e. cc e)) next.was_going)
    (next.long (ap Err c.in-Err-TooLong.field-0-is))

pub returns-in-Err-Read-clause-input : goal.returns-in-Err-Read-clause-input
returns-in-Err-Read-clause-input g c =
    let next = c.in-Err-Read.ensures in
    let stop = next.read (ap Err c.in-Err-Read.field-0-is) in
    known_stop _ _ _ _ _
    (known_read _ _ _ _ _ _ _ _ c.lines.invariant.input ((rw c.in-Err-Read.field-0-is at next.kept) (λ e. cc e)) next.was_going) stop.0
    stop.1

pub returns-then-not-is_blank-clause-buffered : goal.returns-then-not-is_blank-clause-buffered
returns-then-not-is_blank-clause-buffered g c =
    still_none (g.W.Sink.contents c.lines.writer) _ _ _ c.lines.invariant.buffered c.in-Ok-Some.ensures.sent

pub returns-then-not-is_blank-clause-line : goal.returns-then-not-is_blank-clause-line
returns-then-not-is_blank-clause-line g c =
    let at_front = rw c.in-Ok-Some.field-0-is at c.in-Ok-Some.ensures.line in
    let other : is_blank (take c.in-Ok-Some.n c.next_line.new.self.pending) ≡ false =
    rw c.as_slice.ensures at (sym c.is_blank.ensures ∙ c.if-not-is_blank.true) in
    (at_front, other)

pub returns-then-not-is_blank-clause-input : goal.returns-then-not-is_blank-clause-input
returns-then-not-is_blank-clause-input g c =
    let next = c.in-Ok-Some.ensures in
    known_found _ _ _ _ _ c.in-Ok-Some.n
    (known_read _ _ _ _ _ _ _ _ c.lines.invariant.input next.kept next.was_going)

pub returns-in-Err-Write-clause-only : goal.returns-in-Err-Write-clause-only
returns-in-Err-Write-clause-only g c =
    let some = c.in-Err-Write.ensures.nothing (ap Err c.in-Err-Write.field-0-is) in
    absurd (omega (arith, some, ap length c.lines.invariant.buffered))

pub returns-in-Err-Write-clause-kind : goal.returns-in-Err-Write-clause-kind
returns-in-Err-Write-clause-kind g c =
    let some = c.in-Err-Write.ensures.nothing (ap Err c.in-Err-Write.field-0-is) in
    absurd (omega (arith, some, ap length c.lines.invariant.buffered))

pub returns-in-Err-Write-clause-input : goal.returns-in-Err-Write-clause-input
returns-in-Err-Write-clause-input g c =
    let some = c.in-Err-Write.ensures.nothing (ap Err c.in-Err-Write.field-0-is) in
    absurd (omega (arith, some, ap length c.lines.invariant.buffered))

pub lines-smaller : goal.lines-smaller
lines-smaller g c =
    let next = c.in-Ok-Some.ensures in
    let at_front = rw c.in-Ok-Some.field-0-is at next.line in
    let rest = length-drop (c.in-Ok-Some.n + 1) c.next_line.new.self.pending in
    let falls : left c.skip_line.new.self < left c.lines.buffers =
    rw c.skip_line.ensures (omega (arith, rest, next.left, at_front.3)) in
    falls

pub lines-preserved : goal.lines-preserved
lines-preserved g c =
    let old = c.lines.invariant in
    let next = c.in-Ok-Some.ensures in
    let at_front = rw c.in-Ok-Some.field-0-is at next.line in
    let none = still_none (g.W.Sink.contents c.lines.writer) _ _ _ old.buffered next.sent in
    let now = known_read _ _ _ _ _ _ _ _ old.input next.kept next.was_going in
    let rest = length-drop (c.in-Ok-Some.n + 1) c.next_line.new.self.pending in
    let blank : is_blank (take c.in-Ok-Some.n c.next_line.new.self.pending) ≡ true =
    rw c.as_slice.ensures at (sym c.is_blank.ensures ∙ c.if-not-is_blank.false) in
    record {
      counted = rw c.skip_line.ensures next.counted;
      fresh = false_from_ne_true _ (λ t. cc (next.write.1 t));
      end = rw c.skip_line.ensures next.end;
      buffered = rw c.skip_line.ensures none;
      one = omega arith;
      number = rw c.skip_line.ensures (omega (arith, rest, next.left, at_front.3, old.number));
      input = rw c.skip_line.ensures (known_line _ _ _ _ _ c.in-Ok-Some.n now at_front.0 at_front.2 at_front.3 next.end blank);
    }

pub returns-in-Ok-None-clause-input : goal.returns-in-Ok-None-clause-input
returns-in-Ok-None-clause-input g c =
    let next = c.in-Ok-None.ensures in
    let end = rw c.in-Ok-None.field-0-is at next.line in
    known_end _ _ _ _ _ (known_read _ _ _ _ _ _ _ _ c.lines.invariant.input next.kept next.was_going) end.0 (next.end end.1)
