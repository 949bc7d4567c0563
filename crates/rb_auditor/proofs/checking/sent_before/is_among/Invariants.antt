-- It is none of those so far.
use Rattle.std.proofs.Common.{take}
use Rattle.rb_site.specs.Histories.{IsAmong}
use Rattle.rb_auditor.proofs.checking.sent_before.is_among.Given as goal

abbrev pub invariant-loop-known : goal.invariant-loop-known
invariant-loop-known l = ¬ IsAmong l.message (take l.known-index l.messages)
