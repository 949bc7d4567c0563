use Rattle.std.proofs.Common.{◌≡◌, vec_len}
use Rattle.rb_branch.specs.Owners.{OwnedWithin}
use Rattle.rb_branch.proofs.owners.owners_of.Given as goal

abbrev pub invariant-loop-k : goal.invariant-loop-k
invariant-loop-k l = (vec_len l.owners ≡ l.count) × OwnedWithin l.k l.site l.seats l.owners.items
