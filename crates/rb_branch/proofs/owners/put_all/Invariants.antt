use Rattle.rb_branch.specs.Owners.{PutsAll}
use Rattle.rb_branch.proofs.owners.put_all.Given as goal

abbrev pub invariant-loop-i : goal.invariant-loop-i
invariant-loop-i l = PutsAll l.i l.receipts l.k l.fn.owners.items l.owners.items
