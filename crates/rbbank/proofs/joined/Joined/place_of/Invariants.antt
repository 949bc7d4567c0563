-- The line is after the files so far.
use Rattle.std.proofs.Common.{◌≡◌, drop}
use Rattle.rbbank.proofs.PlacesInFiles.{place_from}
use Rattle.rbbank.proofs.joined.Joined.place_of.Given as goal

abbrev pub invariant-loop-file : goal.invariant-loop-file
invariant-loop-file l =
    place_from 0 l.self.counts.items l.line ≡ place_from l.file (drop l.file l.self.counts.items) l.left
