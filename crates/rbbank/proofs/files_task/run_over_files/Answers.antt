use Rattle.std.proofs.Common.{subst}
use Rattle.rbbank.specs.SameFiles.{AreDifferent}
use Rattle.rbbank.proofs.files_task.run_over_files.Goals as goal

pub run_over-requires-clause-different : goal.run_over-requires-clause-different
run_over-requires-clause-different g c = (c.in-Ok.ensures, subst AreDifferent c.deref.ensures.value c.in-None.ensures)
