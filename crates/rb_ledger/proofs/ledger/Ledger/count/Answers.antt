use Rattle.rb_ledger.proofs.Words.{length, ap, sym, ◌∙◌, refl, arith, option_map, slice_get_read, Shadow, cancel_count}
use Rattle.rb_ledger.proofs.CancelReads
use Rattle.rb_ledger.proofs.ReadItems
use Rattle.rb_ledger.proofs.SeenLists
use Rattle.rb_ledger.proofs.ledger.Ledger.count.Goals as goal

pub returns-in_err-cancels : goal.returns-in_err-cancels
returns-in_err-cancels c =
    let index = SeenLists.seen _ _ _ _ c.self.invariant.index c.self.view_is in
    c.from_residual-in_err-cancels.ensures ∙ sym (ap (option_map (λ (u : Shadow). cancel_count c.args.self.now.entries u.name))
    (CancelReads.nothing_there _ _ c.args.position c.in_ok-index.index index.cancels c.in_ok-index.ensures.0
    (sym c.in_ok-index.ensures.1) (omega (arith, ap length c.deref.ensures.value, c.in_err-cancels.ensures.lookup.3))))

pub returns : goal.returns
returns c =
    let index = SeenLists.seen _ _ _ _ c.self.invariant.index c.self.view_is in
    CancelReads.count_there _ _ c.args.position c.in_ok-index.index _ index.cancels c.in_ok-index.ensures.0 (sym c.in_ok-index.ensures.1)
    (ReadItems.read_at _ _ _ _ _ c.deref.ensures.value refl (slice_get_read _ _ _ _ refl c.in_ok-cancels.ensures.lookup.3.0
    c.in_ok-cancels.ensures.lookup.1))
