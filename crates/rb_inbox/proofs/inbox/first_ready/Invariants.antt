use Rattle.std.specs.Prelude.{option_copied}
use Rattle.rb_inbox.proofs.First.{IsFirstSoFar}
use Rattle.rb_inbox.proofs.inbox.first_ready.Given as goal

-- what was found is the first that is ready of those that were looked at
abbrev pub invariant-loop-shadow : goal.invariant-loop-shadow
invariant-loop-shadow l = IsFirstSoFar l.row l.clock l.shadow-index (option_copied l.first)
