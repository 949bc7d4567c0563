use Rattle.std.proofs.Common.{◌++◌, ◌∷◌, [], drop, sym, ap, ◌∙◌}
use Rattle.rb_ledger.proofs.Public.Fronts
use Rattle.rb_ledger.proofs.operation_list.OperationList.copy_from.Goals as goal

pub loop-k-preserved : goal.loop-k-preserved
loop-k-preserved c =
    c.in_ok-push.ensures.items
    ∙ ap (λ us. us ++ c.unwrap.result ∷ []) c.loop-k.invariant
    ∙ sym (Fronts.one_more (drop c.args.first c.args.self.now.items) c.loop-k.k c.unwrap.result
    (Fronts.get_dropped c.args.first c.args.self.now.items c.loop-k.k ∙ sym c.get.ensures ∙ c.unwrap.ensures))
