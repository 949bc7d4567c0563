use Rattle.rb_runs.proofs.Words.{rules, ◌≡◌, Err, false_from_ne_true}
use Rattle.rb_runs.proofs.HistoryLines.{entry_more, entry_rest}
use Rattle.rb_runs.proofs.Parts.{sends_front, sends_more}
use Rattle.rb_runs.proofs.recorded.text.write_history.Goals as goal

pub returns-in_err-write_entry-clause-written : goal.returns-in_err-write_entry-clause-written
returns-in_err-write_entry-clause-written g c =
    let passed : c.from_residual.result ≡ Err c.in_err-write_entry.field-0.0 = search rules in
    rw passed
    (sends_front _ (g.W.Sink.contents c.loop-entry.writer) _ c.args.buffered.now.items _ c.loop-entry.buffered.items _ _ _
    (entry_rest c.args.config.now c.args.site c.args.history.now c.loop-entry.entry-index c.entry-item.result c.loop-entry-test.true
    c.entry-item.is) c.loop-entry.invariant.sent c.in_err-write_entry.ensures.written)

pub loop-entry-preserved : goal.loop-entry-preserved
loop-entry-preserved g c =
    let wrote = c.in_ok-write_entry.ensures in
    record {
      fresh = false_from_ne_true _ (λ failed. cc (wrote.write.1 failed));
      sent = sends_more _ (g.W.Sink.contents c.loop-entry.writer) _ c.args.buffered.now.items _ c.loop-entry.buffered.items _
          c.write_entry.new.buffered.items _
          (entry_more c.args.config.now c.args.site c.args.history.now c.loop-entry.entry-index c.entry-item.result c.loop-entry-test.true
          c.entry-item.is) c.loop-entry.invariant.sent wrote.written;
    }
