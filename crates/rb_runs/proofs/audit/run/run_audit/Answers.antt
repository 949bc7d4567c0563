-- The line of the verdict, or at a fault of the lines nothing.
use Rattle.rb_runs.proofs.Words.{◌≡◌, ◌∙◌, [], Err, ap, refl, rules, Write, input_rest, input_of}
use Rattle.std.proofs.lemmas.Result.{err_from_is_err_and}
use Rattle.rb_runs.proofs.Reported.{input_at, part_reported, reported, stopped_audit}
use Rattle.rb_runs.proofs.Unanswered.{has_input, no_text, no_write, stopped}
use Rattle.rb_runs.proofs.audit.run.run_audit.Goals as goal

pub take_lines-requires-clause-silent : goal.take_lines-requires-clause-silent
take_lines-requires-clause-silent g c = λ ls. no_text (input_of ls)

pub returns-in_err-opened-clause-written : goal.returns-in_err-opened-clause-written
returns-in_err-opened-clause-written g c =
    let f = c.in_err-opened.field-0.0 in
    let passed : c.from_residual.result ≡ Err f = search rules in
    let a = g.S.Source.remaining c.args.reader.now.source in
    let b = g.S.Source.remaining c.take_lines.new.reader.source in
    let stops = stopped input_rest a b f (λ e. c.in_err-opened.ensures.write (ap Err e)) c.in_err-opened.ensures.input in
    rw passed ([], c.in_err-opened.ensures.written, stopped_audit a b f stops)

pub returns-in_err-opened-clause-write : goal.returns-in_err-opened-clause-write
returns-in_err-opened-clause-write g c =
    let passed : c.from_residual.result ≡ Err c.in_err-opened.field-0.0 = search rules in
    no_write c.in_err-opened.field-0.0 c.from_residual.result _ passed c.in_err-opened.ensures.write c.in_err-opened.ensures.fresh

pub returns-clause-written : goal.returns-clause-written
returns-clause-written g c =
    let a = g.S.Source.remaining c.args.reader.now.source in
    let b = g.S.Source.remaining c.take_lines.new.reader.source in
    let s = c.in-Some.collected.auditor in
    let has = has_input input_rest a b c.in_ok-opened.opened c.in-Some.collected (input_at s) c.in-Some.is (λ n. refl)
    c.in_ok-opened.ensures.input in
    let written = rw c.as_slice.ensures.value at c.in_ok-write_all.ensures.written.0 in
    reported _ (g.W.Sink.contents c.take_lines.new.writer) _ a b s _ _ c.in_ok-opened.ensures.written written has c.in_ok-found.ensures

pub returns-in_err-write_all-clause-written : goal.returns-in_err-write_all-clause-written
returns-in_err-write_all-clause-written g c =
    let a = g.S.Source.remaining c.args.reader.now.source in
    let b = g.S.Source.remaining c.take_lines.new.reader.source in
    let s = c.in-Some.collected.auditor in
    let has = has_input input_rest a b c.in_ok-opened.opened c.in-Some.collected (input_at s) c.in-Some.is (λ n. refl)
    c.in_ok-opened.ensures.input in
    let written = rw c.as_slice.ensures.value at c.in_err-write_all.ensures.written.0 in
    let given = err_from_is_err_and c.from_residual-in_err-write_all.result c.from_residual-in_err-write_all.ensures.1 in
    let passed : c.from_residual-in_err-write_all.result ≡ Err Write = given.1 ∙ ap Err given.2 in
    rw passed
    (part_reported _ (g.W.Sink.contents c.take_lines.new.writer) _ a b s _ _ c.in_ok-opened.ensures.written written has
    c.in_ok-found.ensures)
