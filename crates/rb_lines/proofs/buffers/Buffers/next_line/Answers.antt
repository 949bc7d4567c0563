use Rattle.std.proofs.Common.{rules, ◌≡◌, Err}
use Rattle.rb_lines.proofs.ReadLaws.{Reads-then}
use Rattle.rb_lines.proofs.Public.Sending.{Sends-all, Sends-front, Sends-then}
use Rattle.rb_lines.proofs.buffers.Buffers.next_line.Goals as goal

pub returns-in_err-flush-2-clause-front : goal.returns-in_err-flush-2-clause-front
returns-in_err-flush-2-clause-front g c = λ _.
    let flushed = c.in_err-flush-2.ensures in
    (Sends-front _ (g.W.Sink.contents c.reads.writer) _ _ _ c.reads.invariant.sent flushed.written.0, flushed.emptied)

pub returns-in_err-read_more-clause-sent : goal.returns-in_err-read_more-clause-sent
returns-in_err-read_more-clause-sent g c =
    let flushed = c.in_ok-flush-2.ensures in
    let passed : c.from_residual-in_err-read_more.result ≡ Err c.in_err-read_more.field-0.0 = search rules in
    let sent = Sends-all _ _ _ _ flushed.written.0 (search rules) in
    rw passed (λ _. Sends-then _ (g.W.Sink.contents c.reads.writer) _ _ _ _ c.reads.invariant.sent sent)

pub reads-preserved : goal.reads-preserved
reads-preserved g c =
    let before = c.reads.invariant in
    let flushed = c.in_ok-flush-2.ensures in
    let found = c.in_ok-read_more.ensures in
    record {
      counted = found.counted;
      left = search rules;
      end = search rules;
      was_going = search rules;
      fresh = search rules;
      read = Reads-then _ (g.S.Source.remaining c.reads.reader) _ _ _ _ before.read (search rules);
      waited = search rules;
      sent = Sends-then _ (g.W.Sink.contents c.reads.writer) _ _ _ _ before.sent (Sends-all _ _ _ _ flushed.written.0 (search rules));
    }
