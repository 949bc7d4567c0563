use Rattle.rb_history.proofs.Words.{◌≡◌, drop, map, items_view, accounts_in}
use Rattle.rb_money.specs.Faults.{account_of}
use Rattle.rb_history.proofs.Reading.{with_front}
use Rattle.rb_history.proofs.read.config.accounts.Given as goal

abbrev pub invariant-loop-item : goal.invariant-loop-item
invariant-loop-item l = with_front (map account_of l.accounts.items) (accounts_in (items_view (drop l.item-index l.item-items)))
    ≡ accounts_in (items_view l.item-items)
