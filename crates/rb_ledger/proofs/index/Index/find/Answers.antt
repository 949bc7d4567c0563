use Rattle.rb_ledger.proofs.Words.{◌≡◌, ◌+◌, get_or, [], sym, ap, ◌∙◌, arith, slice_get, number_of}
use Rattle.rb_ledger.proofs.ReadItems
use Rattle.rb_ledger.proofs.RowFacts
use Rattle.rb_ledger.proofs.index.Index.find.Goals as goal

pub returns-in_err-index : goal.returns-in_err-index
returns-in_err-index c = λ us index.
    c.from_residual.ensures ∙ RowFacts.find_none _ us c.args.name.now index.clocked.valid (sym c.number.ensures
    ∙ ReadItems.not_one _ c.in_err-index.ensures)

pub returns : goal.returns
returns c = λ us index.
    let next : number_of c.args.name.now ≡ c.in_ok-index.index + 1 = omega (arith, c.number.ensures, c.in_ok-index.ensures) in
    ReadItems.copied_get c.row-row.result.now c.in_ok-index.index _ _ c.get.ensures.lookup c.copied.ensures
    ∙ ap (λ row. slice_get row c.in_ok-index.index) (c.row-row.ensures ∙ ap (λ k. get_or c.args.self.now.rows.rows k []) c.row.ensures)
    ∙ RowFacts.find_is _ us _ c.args.name.now c.in_ok-index.index index.clocked.valid index.rows next
