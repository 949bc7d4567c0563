use Rattle.std.proofs.Common.{◌≡◌}
use Rattle.std.proofs.Common.{refl}
use Rattle.rb_branch.proofs.Recorded.{call_few, call_one, call_sends, one_with_unsent}
use Rattle.rb_branch.proofs.branch.Branch.send.Goals as goal

pub returns-clause-ok : goal.returns-clause-ok
returns-clause-ok g c =
    let one = call_one _ _ c.args.seat.now c.call.new.seat _ _ (λ e. e ≡ c.args.event) c.in_ok-number.ensures.ok refl in
    one_with_unsent c.args.seat.now c.call.new.seat c.set_unsent.new.self (λ e. e ≡ c.args.event) _ c.unsent.result
    one c.set_unsent.ensures

pub post-posting-requires-clause-letters : goal.post-posting-requires-clause-letters
post-posting-requires-clause-letters g c = rw c.as_slice.ensures.value (call_sends _ _ _ _ _ _ c.in_ok-number.ensures.ok)

pub post-posting-requires-clause-few : goal.post-posting-requires-clause-few
post-posting-requires-clause-few g c =
    (rw c.as_slice.ensures.value (call_few _ _ _ _ _ _ c.in_ok-number.ensures.ok), c.sites.ensures.few)
