-- The events so far.
use Rattle.std.proofs.Common.{◌≡◌, take}
use Rattle.rb_site.specs.Histories.{events_of}
use Rattle.rb_auditor.proofs.checking.recorded.events_of.Given as goal

abbrev pub invariant-loop-entry : goal.invariant-loop-entry
invariant-loop-entry l = l.events.items ≡ events_of (take l.entry-index l.history)
