use Rattle.std.proofs.Common.{◌≡◌, ◌≤◌, length, drop}
use Rattle.rb_money.specs.Words.{AreBytes, word}
use Rattle.rb_money.proofs.short_names.word_of.Given as goal

abbrev pub invariant-loop-i : goal.invariant-loop-i
invariant-loop-i l = (l.i ≤ length l.name) × (l.word ≡ word (drop l.i l.name)) × AreBytes (drop l.i l.name)

abbrev pub decreases-loop-i : goal.decreases-loop-i
decreases-loop-i l = l.i
