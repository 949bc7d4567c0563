use Rattle.rb_history.proofs.Words.{◌≡◌, drop, items_view, requests_in}
use Rattle.rb_history.proofs.Reading.{with_front}
use Rattle.rb_history.proofs.read.request.requests.Given as goal

abbrev pub invariant-loop-item : goal.invariant-loop-item
invariant-loop-item l = with_front l.requests.items (requests_in l.config (items_view (drop l.item-index l.item-items)))
    ≡ requests_in l.config (items_view l.item-items)
