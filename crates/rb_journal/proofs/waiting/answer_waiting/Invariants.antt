-- Between two lines.
use Rattle.std.proofs.Common.{◌≡◌, ◌+◌, ◌<◌, ◌≤◌, ◌⊎◌, ◌++◌, [], length}
use Rattle.rb_journal.specs.Lines.{recovered}
use Rattle.rb_journal.specs.Steps.{AdvancesByBatch, point_in}
use Rattle.rb_journal.proofs.waiting.answer_waiting.Given as goal

abbrev pub invariant-lines : goal.invariant-lines
invariant-lines g l =
    let state = g.R.JournaledResponder.state in
    let lines = g.R.JournaledResponder.lines in
    record {
      answered : AdvancesByBatch g.R.JournaledResponder.answers l.fn.buffers.ended
          (point_in (state l.fn.responder) (lines (state l.fn.responder)) l.fn.buffers l.fn.work)
          (point_in (state l.responder) (lines (state l.responder)) l.buffers l.work);
      batch : lines (state l.responder) ≡ lines (state l.fn.responder) ++ recovered l.work.batch.bytes.items;
      reads : l.buffers.reads ≡ l.fn.buffers.reads;
      ended : l.buffers.ended ≡ l.fn.buffers.ended;
      number : l.work.number + length l.buffers.pending ≤ l.fn.work.number + length l.fn.buffers.pending;
      shorter : length l.buffers.pending ≤ length l.fn.buffers.pending;
      begun : ((l.work.batch.bytes.items ≡ []) × (l.buffers.buffered.items ≡ []))
          ⊎ (length l.buffers.pending < length l.fn.buffers.pending);
    }

abbrev pub decreases-lines : goal.decreases-lines
decreases-lines g l = length l.buffers.pending
