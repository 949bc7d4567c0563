use Rattle.rb_history.proofs.Words.{◌≡◌, drop, items_view, names_in}
use Rattle.rb_history.proofs.Reading.{with_front}
use Rattle.rb_history.proofs.read.reply.names.Given as goal

abbrev pub invariant-loop-item : goal.invariant-loop-item
invariant-loop-item l = with_front l.names.items (names_in (items_view (drop l.item-index l.item-items))) ≡ names_in
    (items_view l.item-items)
