-- The messages stay.
use Rattle.std.proofs.Common.{◌≡◌}
use Rattle.rb_auditor.proofs.checking.sent_before.SentBefore.note_from.Given as goal

abbrev pub invariant-loop-at : goal.invariant-loop-at
invariant-loop-at l = l.self.messages.items ≡ l.initial.self.messages.items
