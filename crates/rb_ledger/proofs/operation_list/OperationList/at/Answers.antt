use Rattle.rb_ledger.proofs.Words.{◌≡◌, ap, sym, ◌∙◌, arith, length, refl, Some, slice_get, slice_get_read}
use Rattle.rb_ledger.proofs.Words.{OperationTable}
use Rattle.rb_ledger.proofs.ReadItems
use Rattle.rb_ledger.proofs.OperationTables
use Rattle.rb_ledger.proofs.operation_list.OperationList.at.Goals as goal

pub returns-in_err-kept : goal.returns-in_err-kept
returns-in_err-kept c =
    c.from_residual.ensures
    ∙ sym (ap (λ (t : OperationTable). slice_get t.items c.args.index) (sym c.self.view_is)
    ∙ OperationTables.none_at c.self.inside.clocks.sites _ _ c.args.index (omega (
      arith,
      ap length c.deref.ensures.value,
      c.in_err-kept.ensures.lookup.3,
    )))

pub invariant_of-result : goal.invariant_of-result
invariant_of-result c =
    let there : slice_get c.self.inside.kept.items c.args.index ≡ Some c.in_ok-kept.kept.now = ReadItems.read_at _ _
    _ _ _ c.deref.ensures.value refl
    (slice_get_read _ _ _ _ refl c.in_ok-kept.ensures.lookup.3.0 c.in_ok-kept.ensures.lookup.1) in
    omega (
      arith,
      OperationTables.clock_near 0 _ c.args.index c.in_ok-kept.kept.now c.self.invariant.order there,
      c.self.invariant.clocks,
    )

pub returns : goal.returns
returns c =
    let kept = c.in_ok-kept.kept.now in
    let there : slice_get c.self.inside.kept.items c.args.index ≡ Some kept = ReadItems.read_at _ _ _ _ _ c.deref.ensures.value refl
    (slice_get_read _ _ _ _ refl c.in_ok-kept.ensures.lookup.3.0 c.in_ok-kept.ensures.lookup.1) in
    sym (OperationTables.one_at c.self.inside.clocks.sites _ c.self.inside.clocks.items c.args.index kept there)
    ∙ ap (λ (t : OperationTable). slice_get t.items c.args.index) c.self.view_is
