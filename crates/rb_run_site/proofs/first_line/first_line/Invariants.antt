use Rattle.std.proofs.Common.{◌≡◌, ◌≤◌, ◌+◌, ◌*◌, [], true, false}
use Rattle.std.specs.Io.KnownBytes.{IsAtEnd}
use Rattle.rb_lines.specs.declared.limits.TheConstants.{READ_SIZE, MOST_READS}
use Rattle.rb_lines.specs.Buffers.{Counts, left}
use Rattle.rb_run_site.proofs.Blanks.{BlanksKnown}
use Rattle.rb_run_site.proofs.first_line.first_line.Given as goal

abbrev pub invariant-lines : goal.invariant-lines
invariant-lines g l = record {
  counted : Counts (g.S.Source.calls l.reader) l.buffers.reads;
  fresh : g.W.Sink.failed l.writer ≡ false;
  end : l.buffers.ended ≡ true → IsAtEnd (g.S.Source.remaining l.reader);
  buffered : l.buffers.buffered.items ≡ [];
  one : 1 ≤ l.number;
  number : l.number + left l.buffers ≤ READ_SIZE * MOST_READS + 1;
  input : BlanksKnown (g.S.Source.remaining l.fn.reader) (g.S.Source.remaining l.reader) l.number l.buffers.pending l.buffers.ended;
}

abbrev pub decreases-lines : goal.decreases-lines
decreases-lines g l = left l.buffers
