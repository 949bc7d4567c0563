use Rattle.std.proofs.Common.{◌≡◌, ◌≤◌, ◌<◌, length, true, false}
use Rattle.std.specs.Io.KnownBytes.{IsAtEnd}
use Rattle.rb_lines.specs.Lines.{line_len}
use Rattle.rb_lines.specs.Buffers.{Counts, Reads, Sends, left}
use Rattle.rb_lines.proofs.buffers.Buffers.next_line.Given as goal

abbrev pub invariant-reads : goal.invariant-reads
invariant-reads g l = record {
  counted : Counts (g.S.Source.calls l.reader) l.self.reads;
  left : left l.self ≤ left l.fn.self;
  end : l.self.ended ≡ true → IsAtEnd (g.S.Source.remaining l.reader);
  was_going : l.self.ended ≡ false → l.fn.self.ended ≡ false;
  fresh : g.W.Sink.failed l.writer ≡ false;
  read : Reads l.fn.self.pending l.self.pending (g.S.Source.remaining l.fn.reader) (g.S.Source.remaining l.reader);
  waited : line_len l.fn.self.pending < length l.fn.self.pending
      → (g.S.Source.calls l.reader ≡ g.S.Source.calls l.fn.reader) × (l.self.pending ≡ l.fn.self.pending);
  sent : Sends (g.W.Sink.contents l.fn.writer) (g.W.Sink.contents l.writer) l.fn.self.buffered.items l.self.buffered.items;
}

abbrev pub decreases-reads : goal.decreases-reads
decreases-reads g l = l.self.reads
