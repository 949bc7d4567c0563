use Rattle.std.proofs.Common.{◌≡◌, ◌++◌, drop}
use Rattle.rb_node.specs.Kept.{names_sent}
use Rattle.rb_node.proofs.again.names_in.Given as goal

-- the names so far and those to come are all
abbrev pub invariant-loop-message : goal.invariant-loop-message
invariant-loop-message l = l.names.items ++ names_sent (drop l.message-index l.messages) ≡ names_sent l.messages
