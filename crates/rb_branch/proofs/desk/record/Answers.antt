use Rattle.std.proofs.Common.{◌≡◌, ◌+◌, ◌-◌, ◌∙◌, ap, length, rules}
use Rattle.rb_branch.proofs.Recorded.{desk_more, desk_same, one_entry, one_receipt, recorded, seat_more, seat_same}
use Rattle.rb_branch.proofs.desk.record.Goals as goal

pub invariant_of-desk : goal.invariant_of-desk
invariant_of-desk g c =
    desk_same g.E.Entries.settings c.desk.inside.site c.note.new.site _ _ c.desk.invariant c.in_err-posted.ensures.err.0

pub invariant_of-seat : goal.invariant_of-seat
invariant_of-seat g c =
    seat_same g.E.Entries.settings c.seat.inside.site _ _ c.seat.inside.receipts.items c.note.new.receipts.items c.seat.invariant
    c.in_err-posted.ensures.err.1

pub invariant_of-desk-2 : goal.invariant_of-desk-2
invariant_of-desk-2 g c =
    let one : c.from-made.result ≡ 1 =
    c.from-made.ensures ∙ one_entry c.desk.inside.site c.note.new.site c.args.event _ _ c.in_ok-posted.ensures.step
    c.len-entries.ensures c.len.ensures in
    desk_more g.E.Entries.settings c.desk.inside.site c.note.new.site _ _ _ _ c.args.event c.desk.invariant c.in_ok-posted.ensures.step
    c.in_ok-posted.ensures.room (rw (← c.len.ensures) c.len.type_inv)
    (c.count.ensures.entry.0 ∙ ap (λ n. c.desk.inside.share.amount + n) one) c.count.ensures.entry.1

pub invariant_of-seat-2 : goal.invariant_of-seat-2
invariant_of-seat-2 g c =
    let before : c.len-noted.result ≡ length c.seat.inside.receipts.items = search rules in
    let now : c.len-2.result ≡ length c.note.new.receipts.items = search rules in
    let one : c.len-2.result - c.len-noted.result ≡ 1 =
    one_receipt c.desk.inside.site c.note.new.site c.args.event c.seat.inside.receipts.items _ _ _ c.in_ok-posted.ensures.receipt before
    now in
    seat_more g.E.Entries.settings c.desk.inside.site c.note.new.site c.seat.inside.site _ _ _ _ _ _ c.args.event
    c.seat.inside.receipts.items c.note.new.receipts.items c.desk.invariant c.seat.invariant
    c.in_ok-posted.ensures.here c.in_ok-posted.ensures.few
    c.in_ok-posted.ensures.step c.in_ok-posted.ensures.receipt
    (c.count.ensures.receipt.0 ∙ ap (λ n. c.seat.inside.share.amount + n) one) c.count.ensures.receipt.1

pub returns-clause-ok : goal.returns-clause-ok
returns-clause-ok g c =
    let len : c.len-3.result ≡ length c.note.new.receipts.items = search rules in
    recorded c.desk.inside.site c.args.desk.now c.note.new.site c.args.event c.seat.inside.site _ c.seat.inside.receipts.items
    c.note.new.receipts.items c.args.seat.now _ c.desk.view_is c.seat.view_is c.in_ok-posted.ensures.here
    c.in_ok-posted.ensures.step c.in_ok-posted.ensures.receipt len c.in_ok-posted.ensures.posted
