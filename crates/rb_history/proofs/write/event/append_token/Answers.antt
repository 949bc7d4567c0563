use Rattle.rb_history.proofs.Words.{append_assoc, escape_byte}
use Rattle.rb_history.proofs.Public.Appended.{both, failed, then}
use Rattle.rb_history.proofs.write.event.append_token.Goals as goal

pub returns-in_err-append_number-2 : goal.returns-in_err-append_number-2
returns-in_err-append_number-2 c =
    failed _ c.args.out.now.items _ _ _ _ c.from_residual-in_err-append_number-2.ensures.0 c.in_ok-append_number.ensures
    c.in_err-append_number-2.ensures

pub returns : goal.returns
unfolding escape_byte
returns c =
    let two = both c.args.out.now.items _ _ _ _ c.in_ok-append_number.ensures c.in_ok-append_number-2.ensures in
    then _ c.args.out.now.items _ _ _ _ _ two c.append_number-3.ensures (simp append_assoc)
