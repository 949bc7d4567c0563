use Rattle.std.proofs.Common.{◌⊎◌, drop}
use Rattle.rb_shadow.specs.Operations.{Among}
use Rattle.rb_shadow.specs.declared.shadow.Shadow.{Shadow}
use Rattle.rb_inbox.specs.Quiet.{IsCovered}
use Rattle.rb_inbox.proofs.inbox.add_row.Given as goal

-- the shadows that were looked at are covered, and so is what was before
abbrev pub invariant-loop-shadow : goal.invariant-loop-shadow
invariant-loop-shadow l = record {
  covers : (u : Shadow) → Among u l.row → Among u (drop l.shadow-index l.row) ⊎ IsCovered l.quiet u;
  keeps : (u : Shadow) → IsCovered l.fn.quiet u → IsCovered l.quiet u;
}
