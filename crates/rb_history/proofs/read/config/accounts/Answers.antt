use Rattle.rb_history.proofs.Words.{accounts_in, items_view, view, ap, arith, refl, rules, map}
use Rattle.rb_money.specs.Faults.{account_of}
use Rattle.rb_history.specs.Configurations.{account_at}
use Rattle.rb_history.proofs.Reading.{nothing_read, all_items_read, one_more_read}
use Rattle.rb_history.proofs.read.config.accounts.Goals as goal

pub loop-item-init : goal.loop-item-init
loop-item-init c =
    nothing_read _ (accounts_in (items_view c.deref-item-items.result.now))
    (ap (map account_of) c.new-accounts.ensures.items)

pub loop-item-preserved : goal.loop-item-preserved
loop-item-preserved c =
    one_more_read account_at accounts_in (map account_of c.loop-item.accounts.items)
    (map account_of c.add.new.accounts.items) (c.in_ok-name.name.now, c.in_ok-name.start) c.deref-item-items.result.now
    c.loop-item.item-index c.item-item.result _ (λ d ds. refl) (omega arith) c.item-item.is (search rules)
    (search rules) c.loop-item.invariant

pub returns : goal.returns
returns c =
    all_items_read accounts_in (view c.args.value.now) (map account_of c.loop-item.accounts.items)
    c.deref-item-items.result.now c.loop-item.item-index refl (omega arith) (search rules) c.loop-item.invariant
