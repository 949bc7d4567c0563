use Rattle.rb_history.proofs.Words.{escape_byte, account_json, codes}
use Rattle.rb_history.proofs.Plain.{member_of}
use Rattle.rb_history.proofs.fast.event.parse_statement.Goals as goal

pub returns : goal.returns
unfolding escape_byte
returns c =
    let read = c.in_ok-account in
    (tt, read.ensures.0, member_of (codes "statement") (account_json c.args.config.now read.account) read.ensures.1)
