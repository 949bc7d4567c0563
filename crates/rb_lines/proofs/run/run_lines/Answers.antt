use Rattle.std.proofs.Common.{rules, ◌≡◌, Err}
use Rattle.rb_lines.proofs.Progress.{over_unwritten, over_written}
use Rattle.rb_lines.specs.declared.fault.ScriptFault.TheVariants.{Write}
use Rattle.rb_lines.proofs.run.run_lines.Goals as goal

pub returns-clause-written : goal.returns-clause-written
returns-clause-written g c =
    let of = (g.R.Responder.state c.args.responder.now).rest in
    let over = c.answer_lines-answered.ensures.written in
    over_written of _ (g.W.Sink.contents c.answer_lines-answered.new.writer) _ (g.S.Source.remaining c.args.reader.now) _ _ _ over
    c.in_ok-flush.ensures.written.0

pub returns-in_err-flush-clause-written : goal.returns-in_err-flush-clause-written
returns-in_err-flush-clause-written g c =
    let of = (g.R.Responder.state c.args.responder.now).rest in
    let over = c.answer_lines-answered.ensures.written in
    let passed : c.from_residual.result ≡ Err Write = search rules in
    rw passed
    (over_unwritten of _ (g.W.Sink.contents c.answer_lines-answered.new.writer) _ (g.S.Source.remaining c.args.reader.now) _ _ _ over
    c.in_err-flush.ensures.written.0)
