-- The files so far are joined.
use Rattle.std.proofs.Common.{◌≡◌, ◌≤◌, length}
use Rattle.rbbank.specs.Files.{AreJoined}
use Rattle.rbbank.proofs.joined.join_files.Given as goal

abbrev pub invariant-loop-file : goal.invariant-loop-file
invariant-loop-file g l = record {
  joined : AreJoined (g.F.JournalFiles.read l.files) l.joined;
  count : length (g.F.JournalFiles.read l.files) ≡ l.file;
  some : 1 ≤ l.file;
}
