use Rattle.rb_history.proofs.Words.{request_alone, requests_in, items_view, view, arith, refl, rules}
use Rattle.rb_history.proofs.Reading.{nothing_read, all_items_read, one_more_read}
use Rattle.rb_history.proofs.read.request.requests.Goals as goal

pub loop-item-init : goal.loop-item-init
loop-item-init c = nothing_read _ (requests_in c.args.config.now (items_view c.deref-item-items.result.now))
    (search rules)

pub loop-item-preserved : goal.loop-item-preserved
loop-item-preserved c =
    one_more_read (request_alone c.args.config.now) (requests_in c.args.config.now) c.loop-item.requests.items
    c.push.new.self.items c.in_ok-request.request c.deref-item-items.result.now c.loop-item.item-index
    c.item-item.result _ (λ d ds. refl) (omega arith) c.item-item.is (search rules) (search rules)
    c.loop-item.invariant

pub returns : goal.returns
returns c =
    all_items_read (requests_in c.args.config.now) (view c.args.value.now) c.loop-item.requests.items
    c.deref-item-items.result.now c.loop-item.item-index refl (omega arith) (search rules) c.loop-item.invariant
