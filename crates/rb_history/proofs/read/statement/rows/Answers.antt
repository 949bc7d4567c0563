use Rattle.rb_history.proofs.Words.{row_at, rows_in, items_view, view, arith, refl, rules}
use Rattle.rb_history.proofs.Reading.{nothing_read, all_items_read, one_more_read}
use Rattle.rb_history.proofs.read.statement.rows.Goals as goal

pub loop-item-init : goal.loop-item-init
loop-item-init c = nothing_read _ (rows_in (items_view c.deref-item-items.result.now)) (search rules)

pub loop-item-preserved : goal.loop-item-preserved
loop-item-preserved c =
    one_more_read row_at rows_in c.loop-item.rows.items c.push.new.self.items c.in_ok-row.row
    c.deref-item-items.result.now c.loop-item.item-index c.item-item.result _ (λ d ds. refl) (omega arith)
    c.item-item.is (search rules) (search rules) c.loop-item.invariant

pub returns : goal.returns
returns c =
    all_items_read rows_in (view c.args.value.now) c.loop-item.rows.items c.deref-item-items.result.now
    c.loop-item.item-index refl (omega arith) (search rules) c.loop-item.invariant
