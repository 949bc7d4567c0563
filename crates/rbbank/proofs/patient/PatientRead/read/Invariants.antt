-- No byte of the reader is taken before it gives some.
use Rattle.std.specs.Io.KnownBytes.{Keeps}
use Rattle.rbbank.proofs.patient.PatientRead.read.Given as goal

abbrev pub invariant-loop : goal.invariant-loop
invariant-loop g l = Keeps (g.R.Read.remaining l.fn.self.reader) (g.R.Read.remaining l.self.reader)
