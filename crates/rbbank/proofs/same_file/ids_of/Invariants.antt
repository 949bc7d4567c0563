use Rattle.std.proofs.Common.{◌≡◌, length}
use Rattle.rbbank.proofs.same_file.ids_of.Given as goal

-- each name has an id or none
abbrev pub invariant-loop-name : goal.invariant-loop-name
invariant-loop-name l = length l.ids.items ≡ l.name-index
