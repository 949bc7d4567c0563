-- Between two reads: what was dropped is the front of the line.
use Rattle.std.proofs.Common.{◌≡◌, ◌≤◌, ◌+◌, [], true, length, ℕ, List, Option}
use Rattle.std.specs.Io.KnownBytes.{IsAtEnd}
use Rattle.rb_lines.specs.Buffers.{Counts, left}
use Rattle.rb_journal.proofs.Dropping.{Dropped}
use Rattle.rb_journal.proofs.long.drop_line.Given as goal

abbrev pub invariant-reads : goal.invariant-reads
invariant-reads g l = record {
  counted : Counts (g.I.Input.calls l.reader) l.buffers.reads;
  buffered : l.buffers.buffered.items ≡ [];
  end : l.buffers.ended ≡ true → IsAtEnd (g.I.Input.remaining l.reader);
  order : (left : Option (List ℕ)) (said : List ℕ) → g.I.Input.may_read l.fn.reader left said → g.I.Input.may_read l.reader left said;
  fewer : l.buffers.reads ≤ l.fn.buffers.reads;
  dropped : (d : Dropped l.fn.buffers.pending l.buffers.pending (g.I.Input.remaining l.fn.reader) (g.I.Input.remaining l.reader))
      × (left l.buffers + length d.gone ≤ left l.fn.buffers)
      × (l.fn.buffers.ended ≡ true → (d.more ≡ []) × (l.buffers.ended ≡ true));
}

abbrev pub decreases-reads : goal.decreases-reads
decreases-reads g l = left l.buffers + l.buffers.reads
