use Rattle.std.proofs.Common.{◌≡◌}
use Rattle.std.proofs.Common.{refl}
use Rattle.rb_branch.proofs.Recorded.{call_one}
use Rattle.rb_branch.proofs.branch.Branch.ask.Goals as goal

pub returns-clause-ok : goal.returns-clause-ok
returns-clause-ok g c =
    call_one _ _ c.args.seat.now c.call.new.seat _ _ (λ e. e ≡ c.args.event) c.in_ok-number.ensures.ok refl
