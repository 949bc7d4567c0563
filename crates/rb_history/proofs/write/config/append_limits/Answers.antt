use Rattle.std.proofs.Common.{append_assoc}
use Rattle.rb_history.proofs.Public.Appended.{both, failed, then}
use Rattle.rb_history.proofs.write.config.append_limits.Goals as goal

pub returns-in_err-append_number-2 : goal.returns-in_err-append_number-2
returns-in_err-append_number-2 c =
    failed _ c.args.out.now.items _ _ _ _ c.from_residual-in_err-append_number-2.ensures.0 c.in_ok-append_number.ensures
    c.in_err-append_number-2.ensures

pub returns-in_err-append_number-3 : goal.returns-in_err-append_number-3
returns-in_err-append_number-3 c =
    let two = both c.args.out.now.items _ _ _ _ c.in_ok-append_number.ensures c.in_ok-append_number-2.ensures in
    failed _ c.args.out.now.items _ _ _ _ c.from_residual-in_err-append_number-3.ensures.0 two c.in_err-append_number-3.ensures

pub returns-in_err-append_number-4 : goal.returns-in_err-append_number-4
returns-in_err-append_number-4 c =
    let two = both c.args.out.now.items _ _ _ _ c.in_ok-append_number.ensures c.in_ok-append_number-2.ensures in
    let three = both c.args.out.now.items _ _ _ _ two c.in_ok-append_number-3.ensures in
    failed _ c.args.out.now.items _ _ _ _ c.from_residual-in_err-append_number-4.ensures.0 three c.in_err-append_number-4.ensures

pub returns : goal.returns
returns c =
    let two = both c.args.out.now.items _ _ _ _ c.in_ok-append_number.ensures c.in_ok-append_number-2.ensures in
    let three = both c.args.out.now.items _ _ _ _ two c.in_ok-append_number-3.ensures in
    let four = both c.args.out.now.items _ _ _ _ three c.in_ok-append_number-4.ensures in
    then _ c.args.out.now.items _ _ _ _ _ four c.append_number-5.ensures (simp append_assoc)
