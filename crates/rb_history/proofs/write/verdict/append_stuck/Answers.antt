use Rattle.rb_history.proofs.Words.{append_assoc, escape_byte}
use Rattle.rb_history.proofs.Public.Appended.{both, failed, then}
use Rattle.rb_history.proofs.write.verdict.append_stuck.Goals as goal

pub returns-in_err-append_numbers : goal.returns-in_err-append_numbers
returns-in_err-append_numbers c =
    failed _ c.args.out.now.items _ _ _ _ c.from_residual-in_err-append_numbers.ensures.0 c.in_ok-append.ensures
    c.in_err-append_numbers.ensures

pub returns : goal.returns
unfolding escape_byte
returns c =
    let two = both c.args.out.now.items _ _ _ _ c.in_ok-append.ensures c.in_ok-append_numbers.ensures in
    then _ c.args.out.now.items _ _ _ _ _ two c.append-2.ensures (simp append_assoc)
