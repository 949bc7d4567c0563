-- Between two batches: all that was answered is committed and put out.
use Rattle.std.proofs.Common.{◌≡◌, ◌≤◌, ◌+◌, [], true, ℕ, List, Option}
use Rattle.std.specs.Io.KnownBytes.{IsAtEnd}
use Rattle.rb_journal.specs.Host.{LeavesOnly}
use Rattle.rb_journal.specs.Lines.{IsIntact, recovered}
use Rattle.rb_journal.specs.Journal.{IsSettled}
use Rattle.rb_lines.specs.Buffers.{Counts, left}
use Rattle.rb_journal.specs.Steps.{Goes, IsRunFrom, point_at}
use Rattle.rb_journal.proofs.Follow.{starting}
use Rattle.rb_journal.proofs.run.serve.Given as goal

abbrev pub invariant-batches : goal.invariant-batches
invariant-batches g l =
    let host = g.H.Host in
    let answers = g.R.JournaledResponder.answers in
    let first = starting g.R.JournaledResponder host l.fn.responder l.fn.journal l.fn.number l.fn.buffers.pending in
    let input = g.I.Input.remaining l.fn.reader in
    record {
      settled : IsSettled host.is_usable host.content host.may_leave l.journal;
      same : g.R.JournaledResponder.lines (g.R.JournaledResponder.state l.responder) ≡ recovered (host.content l.journal.host);
      batch : l.work.batch.bytes.items ≡ [];
      buffered : l.buffers.buffered.items ≡ [];
      counted : Counts (g.I.Input.calls l.reader) l.buffers.reads;
      end : l.buffers.ended ≡ true → IsAtEnd (g.I.Input.remaining l.reader);
      number : l.work.number + left l.buffers ≤ l.fn.number + left l.fn.buffers;
      order : (still : Option (List ℕ)) (said : List ℕ) → g.I.Input.may_read l.fn.reader still said
          → g.I.Input.may_read l.reader still said;
      later : host.faults l.fn.journal.host ≤ host.faults l.journal.host;
      follows : Goes answers l.fn.buffers.ended l.buffers.ended first
          (point_at g.R.JournaledResponder host l.responder l.journal l.work l.buffers) input (g.I.Input.remaining l.reader);
      any_moment : LeavesOnly host.moment host.left_since l.fn.journal.host l.journal.host (IsRunFrom answers first input);
      intact : LeavesOnly host.moment host.left_since l.fn.journal.host l.journal.host (λ f d. IsIntact f);
    }

abbrev pub decreases-batches : goal.decreases-batches
decreases-batches g l = left l.buffers + l.buffers.reads
