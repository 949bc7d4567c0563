-- The lines of the histories, or at a fault of the script nothing.
use Rattle.rb_runs.proofs.Words.{◌≡◌, [], Err, ap, inr, refl, rules, IfSome_then, recording_in, recording_of, recorder_rest}
use Rattle.rb_runs.proofs.Recording.{all_written, front_written, stopped_script}
use Rattle.rb_runs.proofs.Unanswered.{has_input, no_text, no_write, stopped}
use Rattle.rb_runs.proofs.recorded.run.run_histories.Goals as goal

pub take_lines-requires-clause-silent : goal.take_lines-requires-clause-silent
take_lines-requires-clause-silent g c = λ ls. no_text (recording_of ls)

pub returns-in_err-opened-clause-written : goal.returns-in_err-opened-clause-written
returns-in_err-opened-clause-written g c =
    let f = c.in_err-opened.field-0.0 in
    let passed : c.from_residual.result ≡ Err f = search rules in
    let a = g.S.Source.remaining c.args.reader.now.source in
    let b = g.S.Source.remaining c.take_lines.new.reader.source in
    let stops = stopped recorder_rest a b f (λ e. c.in_err-opened.ensures.write (ap Err e)) c.in_err-opened.ensures.input in
    rw passed ([], c.in_err-opened.ensures.written, stopped_script a b f stops)

pub returns-in_err-opened-clause-write : goal.returns-in_err-opened-clause-write
returns-in_err-opened-clause-write g c =
    let passed : c.from_residual.result ≡ Err c.in_err-opened.field-0.0 = search rules in
    no_write c.in_err-opened.field-0.0 c.from_residual.result _ passed c.in_err-opened.ensures.write c.in_err-opened.ensures.fresh

pub returns-in-Ok-clause-written : goal.returns-in-Ok-clause-written
returns-in-Ok-clause-written g c =
    let a = g.S.Source.remaining c.args.reader.now.source in
    let b = g.S.Source.remaining c.take_lines.new.reader.source in
    let w = c.in-Some.recorder.world in
    let has = has_input recorder_rest a b c.in_ok-opened.opened c.in-Some.recorder (recording_in w) c.in-Some.is (λ n. refl)
    c.in_ok-opened.ensures.input in
    all_written (g.W.Sink.contents c.args.writer.now) (g.W.Sink.contents c.take_lines.new.writer)
    (g.W.Sink.contents c.write_world.new.writer) a b w tt c.in_ok-opened.ensures.written c.in-Ok.ensures.written has

pub returns-in-Err-Write-clause-written : goal.returns-in-Err-Write-clause-written
returns-in-Err-Write-clause-written g c =
    let a = g.S.Source.remaining c.args.reader.now.source in
    let b = g.S.Source.remaining c.take_lines.new.reader.source in
    let w = c.in-Some.recorder.world in
    let has = has_input recorder_rest a b c.in_ok-opened.opened c.in-Some.recorder (recording_in w) c.in-Some.is (λ n. refl)
    c.in_ok-opened.ensures.input in
    front_written (g.W.Sink.contents c.args.writer.now) (g.W.Sink.contents c.take_lines.new.writer)
    (g.W.Sink.contents c.write_world.new.writer) a b w c.in_ok-opened.ensures.written c.in-Err-Write.ensures.written has

pub returns-in-Err-OutOfMemory-clause-written : goal.returns-in-Err-OutOfMemory-clause-written
returns-in-Err-OutOfMemory-clause-written g c =
    let a = g.S.Source.remaining c.args.reader.now.source in
    let b = g.S.Source.remaining c.take_lines.new.reader.source in
    let w = c.in-Some.recorder.world in
    let has = has_input recorder_rest a b c.in_ok-opened.opened c.in-Some.recorder (recording_in w) c.in-Some.is (λ n. refl)
    c.in_ok-opened.ensures.input in
    let (front, went, begins) = front_written (g.W.Sink.contents c.args.writer.now) (g.W.Sink.contents c.take_lines.new.writer)
    (g.W.Sink.contents c.write_world.new.writer) a b w c.in_ok-opened.ensures.written c.in-Err-OutOfMemory.ensures.written has in
    (front, went, IfSome_then a begins (λ input h. inr h))
