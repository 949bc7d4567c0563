use Rattle.std.specs.Vec.Iter.{into_iter_items}
use Rattle.rb_money.proofs.Places.{IsFilling}
use Rattle.rb_money.proofs.accounts.mapped.Given as goal

abbrev pub invariant-loop-name : goal.invariant-loop-name
invariant-loop-name l = IsFilling l.by_name.entries (into_iter_items l.name-iterator) l.fn.accounts.items
