use Rattle.std.proofs.Common.{◌≡◌, [], take, drop}
use Rattle.std.specs.Prelude.{map}
use Rattle.rb_money.specs.Faults.{account_fault, account_of}
use Rattle.rb_money.proofs.checks.account_fault.Given as goal

abbrev pub invariant-loop-i : goal.invariant-loop-i
invariant-loop-i l = account_fault [] 0 (map account_of l.accounts) ≡ account_fault (map (λ a. a.0) (map account_of (take l.i l.accounts)))
    l.i (map account_of (drop l.i l.accounts))
