use Rattle.std.specs.Prelude.{◌≤◌}
use Rattle.rb_inbox.specs.Rows.{NoBlue}
use Rattle.rb_inbox.proofs.inbox.Inbox.first_blue.Given as goal

-- no row that was looked at has a ready operation
abbrev pub invariant-loop-index : goal.invariant-loop-index
invariant-loop-index l = record {
  low : 1 ≤ l.index;
  none : NoBlue l.self.held l.clock l.index;
}
