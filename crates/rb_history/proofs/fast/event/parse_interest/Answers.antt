use Rattle.rb_history.proofs.Words.{escape_byte, asked_json, codes, refl}
use Rattle.rb_history.proofs.Plain.{member_of}
use Rattle.rb_history.proofs.fast.event.parse_interest.Goals as goal

pub returns : goal.returns
unfolding escape_byte
returns c =
    let asked = c.in_ok-account in
    let rate = c.in_ok-rate in (
      (asked.ensures.0, rate.ensures.0),
      member_of (codes "interest") (asked_json c.args.config.now asked.account rate.rate) (rw (asked.ensures.2, rate.ensures.1) refl),
    )
