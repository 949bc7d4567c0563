use Rattle.std.proofs.Common.{◌<◌, ℕ}
use Rattle.rbbank.specs.SameFiles.{IsSameFile}
use Rattle.rbbank.proofs.same_file.same_before.Given as goal

-- none of those seen is the file
abbrev pub invariant-loop-before : goal.invariant-loop-before
invariant-loop-before l = (before : ℕ) → before < l.before → IsSameFile l.ids l.file before → ⊥
