-- Calls on a file that somebody else makes, one after another.
use Rattle.std.specs.Prelude.{ℕ, true, List, [], length}
use Rattle.rb_journal.specs.Calls.{NotedCall}
use Rattle.rb_journal.specs.declared.call.Call.{Call}
use Rattle.rb_journal.specs.declared.call.Call.TheVariants.{Write, Cut, Sync, Keep, PutOut}

-- a file that was opened and read, and one whose bytes are all on the disk, as a log notes them
abbrev pub opened_event : List ℕ → NotedCall
opened_event bytes = (7, 0, true, bytes)

abbrev pub found_event : List ℕ → NotedCall
found_event bytes = (0, 0, true, bytes)

-- a call that is to be made, as a log notes it once it has succeeded
abbrev pub made_event : Call → NotedCall
made_event (Write at bytes) = (1, at, true, bytes.items)
made_event (Cut len) = (2, len, true, [])
made_event Sync = (3, 0, true, [])
made_event (Keep lines bytes) = (6, 0, true, bytes.items)
made_event (PutOut bytes) = (4, length bytes.items, true, bytes.items)
