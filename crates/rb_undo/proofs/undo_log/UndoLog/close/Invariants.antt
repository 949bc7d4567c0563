use Rattle.std.specs.Prelude.{vec_len}
use Rattle.rb_undo.proofs.undo_log.UndoLog.close.Given as goal

abbrev pub invariant-undos : goal.invariant-undos
invariant-undos l = Unit {0}

abbrev pub decreases-undos : goal.decreases-undos
decreases-undos l = vec_len l.undos
