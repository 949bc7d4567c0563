use Rattle.std.proofs.Common.{◌≡◌, List, ℕ, length, ◌++◌}
use Rattle.std.specs.Io.KnownBytes.{Appends}
use Rattle.rb_lines.proofs.write.write_all.Given as goal

-- what was written is the prefix of the text before the rest
abbrev pub invariant-loop-rest : goal.invariant-loop-rest
invariant-loop-rest g l = (front : List ℕ) × (l.text ≡ front ++ l.rest)
    × Appends (g.W.Sink.contents l.initial.writer) (g.W.Sink.contents l.writer) front
    × (g.W.Sink.failed l.writer ≡ g.W.Sink.failed l.initial.writer)

abbrev pub decreases-loop-rest : goal.decreases-loop-rest
decreases-loop-rest g l = length l.rest
