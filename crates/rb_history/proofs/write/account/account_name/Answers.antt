use Rattle.rb_history.proofs.Words.{◌≡◌, Some, refl, rules, slice_get, escape_byte}
use Rattle.rb_history.proofs.Plain.{account_plain}
use Rattle.rb_history.proofs.write.account.account_name.Goals as goal

pub returns-in-Some-clause-plain : goal.returns-in-Some-clause-plain
returns-in-Some-clause-plain c =
    let at : slice_get c.args.config.now.names c.args.place.0 ≡ Some c.in-Some.name.now = search rules in
    account_plain c.in-Some.name.now (c.accounts.ensures.configured.names c.args.place.0 c.in-Some.name.now at)

pub returns-in-None-clause-plain : goal.returns-in-None-clause-plain
unfolding escape_byte
returns-in-None-clause-plain c = refl
