use Rattle.std.proofs.Common.{arith}
use Rattle.rb_history.proofs.Digits.{longer_by_four, within_20}
use Rattle.rb_history.proofs.write.put.digit_count.Goals as goal

pub overflow_add-count : goal.overflow_add-count
overflow_add-count c = omega (arith, within_20 c.args.n (omega arith), c.loop-left.invariant)

pub loop-left-preserved : goal.loop-left-preserved
loop-left-preserved c = omega (arith, longer_by_four c.loop-left.left (omega arith) (omega arith), c.loop-left.invariant)

pub overflow_add-result : goal.overflow_add-result
overflow_add-result c = omega (arith, within_20 c.args.n (omega arith), c.loop-left.invariant, c.few_digits.ensures)
