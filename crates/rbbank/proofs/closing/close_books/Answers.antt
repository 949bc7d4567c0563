use Rattle.std.proofs.Common.{subst}
use Rattle.rbbank.specs.SameFiles.{AreDifferent}
use Rattle.rbbank.proofs.closing.close_books.Goals as goal

pub close_by-requires-clause-different : goal.close_by-requires-clause-different
close_by-requires-clause-different g c = (c.in-Ok.ensures, subst AreDifferent c.deref.ensures.value c.in-None.ensures)
