-- A file whose calls somebody else makes.
use Rattle.std.specs.Prelude.{List, map}
use Rattle.rb_journal.specs.Calls.{NotedCall}
use Rattle.rb_journal.specs.Planned.{made_event}
use Rattle.rb_journal.specs.declared.planned.Planned.{Planned}

-- the log of the calls that were made, newest first
abbrev pub log_made : Planned → List NotedCall
log_made p = p.made.events

-- the calls that are still to be made, the next one last, each as it is noted once it has succeeded
abbrev pub log_left : Planned → List NotedCall
log_left p = map made_event p.calls.items

-- the log once all of them are made
abbrev pub log_planned : Planned → List NotedCall
log_planned p = p.log.events
