-- A line is answered, or skipped.
use Rattle.std.proofs.Common.{rules, arith, ◌≡◌, ◌≤◌, ◌∙◌, true, false, length, take, ap, sym}
use Rattle.std.proofs.lemmas.List.{length-take}
use Rattle.rb_lines.specs.Lines.{is_blank}
use Rattle.rb_lines.specs.declared.limits.TheConstants.{LINE_LIMIT}
use Rattle.rb_journal.proofs.Advance.{answers_one, blank_skipped, skips, some_answered}
use Rattle.rb_journal.proofs.waiting.answer_next.Goals.{then-not-is_blank+in_ok-answer_line, else-not-is_blank}
use Rattle.rb_journal.proofs.waiting.answer_next.Goals as goal

pub returns-clause-answered : goal.returns-clause-answered
returns-clause-answered g c =
    let line = c.requires.line in
    let n = c.args.n in
    let state = g.R.JournaledResponder.state in
    let lines = g.R.JournaledResponder.lines in
    let waits = c.args.buffers.now.pending in
    let here : c.as_slice.result.now ≡ waits = c.as_slice.ensures in
    elim c.if-not-is_blank.branch [
      | then-not-is_blank+in_ok-answer_line w ↦
          let some : is_blank (take n waits) ≡ false = ap (λ l. is_blank (take n l)) (sym here) ∙ sym w.if-not-is_blank.ensures in
          let turn = rw here at w.in_ok-answer_line.ensures.answered in
          answers_one n line.0 line.2 line.3 (some_answered (take n waits) some) turn
          (ap state w.responder-is) (ap lines (ap state w.responder-is)) (search rules) (search rules) (search rules) (search rules)
      | else-not-is_blank w ↦
          let blank : is_blank (take n waits) ≡ true = ap (λ l. is_blank (take n l)) (sym here) ∙ sym w.if-not-is_blank.ensures in
          let short : length (take n waits) ≤ LINE_LIMIT = omega (arith, line.1, line.2, length-take n waits) in
          skips n line.0 line.2 line.3 (blank_skipped (take n waits) blank short)
          (ap state w.responder-is) (ap lines (ap state w.responder-is)) (search rules) (search rules) (search rules) (search rules)
    ]
