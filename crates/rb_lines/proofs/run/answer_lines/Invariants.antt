-- Between two lines.
use Rattle.std.proofs.Common.{◌≡◌, ◌≤◌, ◌+◌, ◌*◌, true, false}
use Rattle.std.specs.Io.KnownBytes.{IsAtEnd}
use Rattle.rb_lines.specs.declared.limits.TheConstants.{READ_SIZE, MOST_READS}
use Rattle.rb_lines.specs.Buffers.{Counts, left}
use Rattle.rb_lines.proofs.Made.{IsMade}
use Rattle.rb_lines.proofs.Progress.{IsAt}
use Rattle.rb_lines.proofs.Silent.{KeepsSilent}
use Rattle.rb_lines.proofs.run.answer_lines.Given as goal

abbrev pub invariant-lines : goal.invariant-lines
invariant-lines g l =
    let state = g.R.Responder.state in
    record {
      counted : Counts (g.S.Source.calls l.reader) l.buffers.reads;
      fresh : g.W.Sink.failed l.writer ≡ false;
      end : l.buffers.ended ≡ true → IsAtEnd (g.S.Source.remaining l.reader);
      number : (state l.responder).number + left l.buffers ≤ READ_SIZE * MOST_READS + 1;
      count : (state l.responder).count ≤ (state l.responder).number;
      written : IsAt (state l.fn.responder).rest (g.W.Sink.contents l.fn.writer) (g.W.Sink.contents l.writer)
          (g.S.Source.remaining l.fn.reader)
          (g.S.Source.remaining l.reader) (state l.responder) l.buffers.pending l.buffers.ended l.buffers.buffered.items;
      made : IsMade (g.R.Responder.made l.fn.responder) (g.R.Responder.made l.responder) (g.S.Source.remaining l.fn.reader)
          (g.S.Source.remaining l.reader) l.buffers.pending;
      silent : KeepsSilent (state l.fn.responder) (state l.responder) (g.W.Sink.contents l.fn.writer) (g.W.Sink.contents l.writer)
          l.buffers.buffered.items;
    }

abbrev pub decreases-lines : goal.decreases-lines
decreases-lines g l = left l.buffers
