use Rattle.std.proofs.Common.{◌<◌}
use Rattle.rb_shadow.specs.Operations.{Among, row_of}
use Rattle.rb_shadow.specs.declared.shadow.Shadow.{Shadow}
use Rattle.rb_inbox.specs.Quiet.{IsCovered}
use Rattle.rb_inbox.proofs.inbox.Inbox.waiting.Given as goal

-- the operations of the rows that were looked at are covered
abbrev pub invariant-loop-index : goal.invariant-loop-index
invariant-loop-index l = (u : Shadow) → Among u l.self.held → row_of u.name < l.index → IsCovered l.quiet u
