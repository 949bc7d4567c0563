use Rattle.std.proofs.Common.{◌≡◌, ◌+◌, List, length}
use Rattle.rb_shadow.specs.declared.shadow.Shadow.{Shadow}
use Rattle.rb_scratch.specs.Tried.{IsTried}
use Rattle.rb_scratch.proofs.scratch.undo_all.Given as goal

abbrev pub invariant-undos : goal.invariant-undos
invariant-undos l = record {
  settings : l.ledger.settings ≡ l.initial.ledger.settings;
  tried : (base made : List Shadow) → IsTried base made l.initial.ledger l.fn.undos.parts →
      (left : List Shadow) × IsTried base left l.ledger l.undos.parts;
  room : l.ledger.room + length l.undos.parts ≡ l.initial.ledger.room + length l.fn.undos.parts;
}

abbrev pub decreases-undos : goal.decreases-undos
decreases-undos l = length l.undos.parts
