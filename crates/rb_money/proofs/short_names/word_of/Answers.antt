use Rattle.std.proofs.Common.{◌-◌, ◌<◌, arith, drop, length-drop, rules, slice_index_or}
use Rattle.rb_money.proofs.Words.{word_small}
use Rattle.rb_money.proofs.short_names.word_of.Goals as goal

pub overflow_mul-word : goal.overflow_mul-word
overflow_mul-word c =
    let name = c.args.name.now in
    let i = c.loop-i.i in
    let left = length-drop i name in
    let small = word_small (drop i name) c.loop-i.invariant.2 (omega (arith, left, c.requires, c.loop-i-test.true)) in
    omega (arith, small, c.loop-i.invariant.1)

pub overflow_add-word : goal.overflow_add-word
overflow_add-word c =
    let name = c.args.name.now in
    let i = c.loop-i.i in
    let left = length-drop i name in
    let small = word_small (drop i name) c.loop-i.invariant.2 (omega (arith, left, c.requires, c.loop-i-test.true)) in
    let byte : slice_index_or name (i - 1) 0 < 256 = search rules in
    omega (arith, small, byte, c.loop-i.invariant.1)
