use Rattle.rb_history.proofs.Words.{escape_byte, asked_json, codes}
use Rattle.rb_history.proofs.Plain.{member_of}
use Rattle.rb_history.proofs.fast.event.parse_deposit.Goals as goal

pub returns : goal.returns
unfolding escape_byte
returns c =
    let asked = c.in_ok-account in (
      (asked.ensures.0, asked.ensures.1),
      member_of (codes "deposit") (asked_json c.args.config.now asked.account asked.amount) asked.ensures.2,
    )
