use Rattle.rb_ledger.proofs.Words.{[], ◌+◌, ap, ◌∙◌, refl, subst, Index, IsIndex, IfOk-from_err}
use Rattle.rb_ledger.proofs.Indexed
use Rattle.rb_ledger.proofs.index.Index.open.Goals as goal

pub returns-clause-index : goal.returns-clause-index
returns-clause-index c =
    let x : Index = record {
      config = c.in_ok-config.config;
      clock = c.zero.result;
      cancels = c.new-2.result;
      heads = c.in_ok-heads.heads;
      rows = c.in_ok-rows.rows;
    } in
    subst (λ s. IsIndex s [] x) c.in_ok-config.ensures.same
    (Indexed.indexed_none c.in_ok-config.config x _ c.in_ok-config.ensures.configured refl c.zero.ensures.entries c.new-2.ensures.items
    c.in_ok-heads.ensures c.in_ok-rows.ensures.rows (ap (λ n. n + 1) (c.from.ensures ∙ c.sites.ensures.same)))

pub returns-in_err-rows-clause-index : goal.returns-in_err-rows-clause-index
returns-in_err-rows-clause-index c = IfOk-from_err c.from_residual-in_err-rows.result _ c.from_residual-in_err-rows.ensures.0

pub returns-in_err-heads-clause-limit : goal.returns-in_err-heads-clause-limit
returns-in_err-heads-clause-limit c = IfOk-from_err c.from_residual-in_err-heads.result _ c.from_residual-in_err-heads.ensures.0
