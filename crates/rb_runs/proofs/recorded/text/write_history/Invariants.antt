-- So far the lines of the entries before went out or are buffered.
use Rattle.rb_runs.proofs.Words.{◌≡◌, ◌++◌, take, false, Sends, history_text}
use Rattle.rb_runs.proofs.recorded.text.write_history.Given as goal

abbrev pub invariant-loop-entry : goal.invariant-loop-entry
invariant-loop-entry g l = record {
  fresh : g.W.Sink.failed l.writer ≡ false;
  sent : Sends (g.W.Sink.contents l.fn.writer) (g.W.Sink.contents l.writer)
      (l.fn.buffered.items ++ history_text l.config l.site (take l.entry-index l.history)) l.buffered.items;
}
