use Rattle.rb_ledger.proofs.Words.{◌-◌, ◌<◌, length, ap, arith, get_or_read, Cancels, no_cancels}
use Rattle.rb_ledger.proofs.ReadItems
use Rattle.rb_ledger.proofs.index.cancel_one_more.Goals as goal

pub overflow_add-old : goal.overflow_add-old
overflow_add-old c =
    let some : 0 < c.args.target = ReadItems.positive _ c.if-target-eq0.false in
    let near : c.args.target - 1 < length c.args.cancels.now.items = omega (arith, some, c.requires.within) in
    let read = get_or_read c.args.cancels.now.items _ c.index-old.result.now near c.index-old.ensures no_cancels in
    omega (arith, ap (λ (c : Cancels). c.count) read, c.requires.fits (c.args.target - 1))
