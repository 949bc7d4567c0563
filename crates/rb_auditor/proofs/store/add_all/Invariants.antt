-- So far the messages below are added.
use Rattle.std.proofs.Common.{◌≡◌, ◌++◌, take}
use Rattle.rb_auditor.proofs.store.add_all.Given as goal

abbrev pub invariant-loop-message : goal.invariant-loop-message
invariant-loop-message l =
    (l.messages.items ≡ l.initial.messages.items ++ take l.message-index l.posted)
    × (l.messages.limit ≡ l.initial.messages.limit)
