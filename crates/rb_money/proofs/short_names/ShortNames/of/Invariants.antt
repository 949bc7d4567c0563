use Rattle.rb_money.specs.Words.{AreShort}
use Rattle.rb_money.proofs.Named.{names_of}
use Rattle.rb_money.proofs.short_names.ShortNames.of.Given as goal

abbrev pub invariant-loop-i : goal.invariant-loop-i
invariant-loop-i l = AreShort (names_of l.accounts) l.short.slots.items
