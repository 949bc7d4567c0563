use Rattle.std.proofs.Common.{append_assoc}
use Rattle.rb_history.proofs.Public.Appended.{both, failed, then}
use Rattle.rb_history.proofs.write.counts.append_one.Goals as goal

pub returns-in_err-append_number : goal.returns-in_err-append_number
returns-in_err-append_number c =
    failed _ c.args.out.now.items _ _ _ _ c.from_residual-in_err-append_number.ensures.0 c.in_ok-append.ensures
    c.in_err-append_number.ensures

pub returns : goal.returns
returns c =
    let two = both c.args.out.now.items _ _ _ _ c.in_ok-append.ensures c.in_ok-append_number.ensures in
    then _ c.args.out.now.items _ _ _ _ _ two c.append_number-2.ensures (simp append_assoc)
