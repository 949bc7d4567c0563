-- So far the lines of the histories before went out or are buffered, and the reports from here on are left.
use Rattle.rb_runs.proofs.Words.{◌≡◌, ◌≤◌, ◌++◌, drop, take, map, false, vec_len, into_iter_items, Sends, SiteReport, histories_text}
use Rattle.rb_runs.proofs.recorded.text.write_histories.Given as goal

abbrev pub invariant-loop-report : goal.invariant-loop-report
invariant-loop-report g l = record {
  next : (goal.iterator-loop-report g).can_next l.report-iterator;
  finite : (goal.iterator-loop-report g).is_finite l.report-iterator;
  left : into_iter_items l.report-iterator ≡ drop l.site l.fn.reports.items;
  within : l.site ≤ vec_len l.fn.reports;
  fresh : g.W.Sink.failed l.writer ≡ false;
  sent : Sends (g.W.Sink.contents l.fn.writer) (g.W.Sink.contents l.writer)
      (l.fn.buffered.items ++ histories_text l.config 0 (map (λ (r : SiteReport). r.history.items)
      (take l.site l.fn.reports.items))) l.buffered.items;
}
