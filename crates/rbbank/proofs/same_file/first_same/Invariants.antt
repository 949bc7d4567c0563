use Rattle.std.proofs.Common.{◌<◌, ℕ}
use Rattle.rbbank.specs.SameFiles.{IsSameFile}
use Rattle.rbbank.proofs.same_file.first_same.Given as goal

-- none of those seen is one before it
abbrev pub invariant-loop-file : goal.invariant-loop-file
invariant-loop-file l = (file before : ℕ) → file < l.file → IsSameFile l.ids file before → ⊥
