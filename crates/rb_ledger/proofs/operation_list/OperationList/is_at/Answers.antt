use Rattle.rb_ledger.proofs.Words.{◌≡◌, ◌∙◌, ◌<◌, [], Some, ap, arith, get_or, length, refl, subst, sym, slice_get}
use Rattle.rb_ledger.proofs.Words.{IsOfSites, OperationTable, with_counts}
use Rattle.rb_ledger.proofs.OperationTables
use Rattle.rb_ledger.proofs.ReadItems
use Rattle.rb_ledger.proofs.operation_list.OperationList.is_at.Goals.{After-index-kept}
use Rattle.rb_ledger.proofs.operation_list.OperationList.is_at.Goals as goal

-- what is read is kept at the index
there : (c : After-index-kept) → slice_get c.self.inside.kept.items c.args.index ≡ Some c.index-kept.result.now
there c =
    let near : c.args.index < length c.self.inside.kept.items = omega (
      arith,
      c.requires.near,
      OperationTables.as_many c.self.inside.clocks.sites c.self.inside.kept.items c.self.inside.clocks.items,
      ap (λ (t : OperationTable). length t.items) c.self.view_is,
    ) in
    ReadItems.read_item c.self.inside.kept.items c.args.index c.args.index _ c.index-kept.result.now refl near refl c.index-kept.ensures

pub is_at-requires : goal.is_at-requires
is_at-requires c = omega (
  arith,
  OperationTables.clock_near 0 _ c.args.index c.index-kept.result.now c.self.invariant.order
      (there (goal.at.is_at-requires c).After-index-kept),
  c.self.invariant.clocks,
)

pub returns-then-is_of : goal.returns-then-is_of
returns-then-is_of c = λ t.
    let w = c.self.inside.clocks.sites in
    let b = c.index-kept.result.now in
    let v = c.args.shadow.now in
    let ns = get_or c.self.inside.clocks.items b.clock [] in
    let sites = subst (λ n. IsOfSites n v.deps) (sym (ap (λ (t : OperationTable). t.sites) c.self.view_is)) c.requires.sites in
    ap (λ (t : OperationTable). slice_get t.items c.args.index) (sym c.self.view_is)
    ∙ OperationTables.one_at w _ c.self.inside.clocks.items c.args.index b (there (goal.at.returns-then-is_of c).After-index-kept)
    ∙ ap (λ x. Some (with_counts w x ns)) (c.if-is_of.ensures refl)
    ∙ ap Some (OperationTables.whole_again w b.clock ns v _ _ refl refl c.requires.home
    (OperationTables.kept_same w ns v.deps v.name sites c.is_at.ensures.all c.requires.own (c.is_at.ensures.same t)))
