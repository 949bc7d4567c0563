-- So far the records below are at the log's end.
use Rattle.std.proofs.Common.{◌≡◌, ◌+◌, ◌≤◌, ◌++◌, take}
use Rattle.rb_scratch.proofs.records.Records.append_to.Given as goal

abbrev pub invariant-records : goal.invariant-records
invariant-records l = (l.log.parts ≡ l.initial.log.parts ++ take l.index l.parts) × (l.len ≤ l.log.room + l.index)
