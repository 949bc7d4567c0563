use Rattle.std.proofs.Common.{append_assoc, append-nil}
use Rattle.rb_history.proofs.Public.Appended.{both, failed, then}
use Rattle.rb_history.proofs.write.shadow.append_back.Goals as goal

pub returns-in_err-append : goal.returns-in_err-append
returns-in_err-append c =
    failed _ c.args.out.now.items _ _ _ _ c.from_residual-in_err-append.ensures.0 c.in_ok-append_number.ensures c.in_err-append.ensures

pub returns-in_err-append_named : goal.returns-in_err-append_named
returns-in_err-append_named c =
    let word = rw c.word_of.ensures at c.in_ok-append.ensures in
    let two = both c.args.out.now.items _ _ _ _ c.in_ok-append_number.ensures word in
    failed _ c.args.out.now.items _ _ _ _ c.from_residual-in_err-append_named.ensures.0 two c.in_err-append_named.ensures

pub returns : goal.returns
returns c =
    let word = rw (c.word_of.ensures, c.label.ensures) at c.in_ok-append.ensures in
    let two = both c.args.out.now.items _ _ _ _ c.in_ok-append_number.ensures word in
    let three = both c.args.out.now.items _ _ _ _ two c.in_ok-append_named.ensures in
    then _ c.args.out.now.items _ _ _ _ _ three c.append_last.ensures (simp (append-nil, append_assoc))
