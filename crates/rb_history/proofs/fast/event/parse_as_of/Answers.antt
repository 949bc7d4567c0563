use Rattle.rb_history.proofs.Words.{escape_byte, asked_json, codes, refl}
use Rattle.rb_history.proofs.Plain.{member_of}
use Rattle.rb_history.proofs.fast.event.parse_as_of.Goals as goal

pub returns : goal.returns
unfolding escape_byte
returns c =
    let asked = c.in_ok-account in
    let position = c.in_ok-position in (
      tt,
      (asked.ensures.0, position.ensures.0),
      member_of (codes "asof") (asked_json c.args.config.now asked.account position.position) (rw (asked.ensures.2, position.ensures.1)
          refl),
    )
