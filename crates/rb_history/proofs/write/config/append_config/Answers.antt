use Rattle.rb_history.proofs.Words.{append_assoc, escape_byte}
use Rattle.rb_history.proofs.Public.Appended.{both, failed, then}
use Rattle.rb_history.proofs.write.config.append_config.Goals as goal

pub returns-in_err-append_accounts : goal.returns-in_err-append_accounts
returns-in_err-append_accounts c =
    failed _ c.args.out.now.items _ _ _ _ c.from_residual-in_err-append_accounts.ensures.0 c.in_ok-append.ensures
    c.in_err-append_accounts.ensures

pub returns-in_err-append_limits : goal.returns-in_err-append_limits
returns-in_err-append_limits c =
    let two = both c.args.out.now.items _ _ _ _ c.in_ok-append.ensures c.in_ok-append_accounts.ensures in
    failed _ c.args.out.now.items _ _ _ _ c.from_residual-in_err-append_limits.ensures.0 two c.in_err-append_limits.ensures

pub returns : goal.returns
unfolding escape_byte
returns c =
    let limited = rw c.limits.ensures at c.in_ok-append_limits.ensures in
    let ended = rw (c.sites.ensures.same, c.version.ensures.same) at c.append_end.ensures in
    let two = both c.args.out.now.items _ _ _ _ c.in_ok-append.ensures c.in_ok-append_accounts.ensures in
    let three = both c.args.out.now.items _ _ _ _ two limited in
    then _ c.args.out.now.items _ _ _ _ _ three ended (simp append_assoc)
