use Rattle.rb_runs.proofs.Words.{rules, ◌≡◌, Err, arith, false_from_ne_true, into_iter_items}
use Rattle.rb_runs.proofs.HistoryLines.{next_left, report_more, report_rest}
use Rattle.rb_runs.proofs.Parts.{sends_front, sends_more}
use Rattle.rb_runs.proofs.recorded.text.write_histories.Goals as goal

pub returns-in_err-write_history-clause-written : goal.returns-in_err-write_history-clause-written
returns-in_err-write_history-clause-written g c =
    let passed : c.from_residual.result ≡ Err c.in_err-write_history.field-0.0 = search rules in
    let at = next_left c.args.reports.items _ (into_iter_items c.next.new.self) c.loop-report.site c.in-Some.report
    c.loop-report.invariant.left c.in-Some.ensures.steps.0 in
    let written = rw (c.as_slice.ensures.value) at c.in_err-write_history.ensures.written in
    rw passed
    (sends_front _ (g.W.Sink.contents c.loop-report.writer) _ c.args.buffered.now.items _ c.loop-report.buffered.items _ _ _
    (report_rest c.args.config.now c.args.reports.items c.loop-report.site c.in-Some.report at.0 at.1) c.loop-report.invariant.sent written)

pub loop-report-preserved : goal.loop-report-preserved
loop-report-preserved g c =
    let at = next_left c.args.reports.items _ (into_iter_items c.next.new.self) c.loop-report.site c.in-Some.report
    c.loop-report.invariant.left c.in-Some.ensures.steps.0 in
    let wrote = c.in_ok-write_history.ensures in
    let written = rw (c.as_slice.ensures.value) at wrote.written in
    record {
      next = tt;
      finite = tt;
      left = at.2;
      within = omega (arith, at.0);
      fresh = false_from_ne_true _ (λ failed. cc (wrote.write.1 failed));
      sent = sends_more _ (g.W.Sink.contents c.loop-report.writer) _ c.args.buffered.now.items _ c.loop-report.buffered.items _
          c.write_history.new.buffered.items _
          (report_more c.args.config.now c.args.reports.items c.loop-report.site c.in-Some.report at.0 at.1)
          c.loop-report.invariant.sent written;
    }
