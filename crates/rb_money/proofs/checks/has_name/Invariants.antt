use Rattle.std.proofs.Common.{◌≡◌, drop}
use Rattle.std.specs.Prelude.{map}
use Rattle.rb_money.specs.Faults.{is_among, account_of}
use Rattle.rb_money.proofs.checks.has_name.Given as goal

abbrev pub invariant-loop-account : goal.invariant-loop-account
invariant-loop-account l = is_among (map (λ a. a.0) (map account_of l.accounts)) l.name
    ≡ is_among (map (λ a. a.0) (map account_of (drop l.account-index l.accounts))) l.name
