use Rattle.std.proofs.Common.{◌≡◌, ◌+◌, ◌*◌, ◌≤◌, ◌++◌, [], take, reverse}
use Rattle.std.specs.Prelude.{pos}
use Rattle.rb_money.specs.declared.limits.TheConstants.{MOST_BALANCE}
use Rattle.rb_money.specs.declared.cents.TheConstants.{MOST_CENTS}
use Rattle.rb_shadow.specs.Operations.{bal}
use Rattle.rb_ledger.specs.OnAccount.{IsOn}
use Rattle.rb_statements.specs.Statements.{rows_of}
use Rattle.rb_statements.proofs.views.rows.Given as goal

abbrev pub invariant-loop-position : goal.invariant-loop-position
invariant-loop-position l = record {
  on : IsOn l.ledger.entries l.place l.position;
  rows : rows_of l.ledger.settings l.ledger.entries l.place [] l.ledger.entries
      ≡ rows_of l.ledger.settings l.ledger.entries l.place [] (take l.position l.ledger.entries) ++ reverse l.rows.items;
  sum : pos l.balance ≡ bal l.ledger.settings (take l.position l.ledger.entries) l.place;
  bounded : l.balance + MOST_CENTS * l.position ≤ 2 * MOST_BALANCE;
}

abbrev pub decreases-loop-position : goal.decreases-loop-position
decreases-loop-position l = l.position
