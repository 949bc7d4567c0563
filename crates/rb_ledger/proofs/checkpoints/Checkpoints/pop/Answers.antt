use Rattle.std.proofs.Common.{◌≡◌, ◌-◌, take, length, vec_len, refl, ap, sym, ◌∙◌}
use Rattle.rb_ledger.proofs.CheckpointFacts
use Rattle.rb_ledger.proofs.checkpoints.Checkpoints.pop.Goals as goal

pub returns-then-count-before-clause-checkpoints : goal.returns-then-count-before-clause-checkpoints
returns-then-count-before-clause-checkpoints c = λ s us h configured are count.
    let many : vec_len c.args.self.now.lasts ≡ length c.args.self.now.lasts.items = c.args.self.now.lasts.ok.0 in
    CheckpointFacts.pop_row s us h c.args.self.now _ configured are (sym count ∙ c.if-count-before.true)
    (c.truncate.ensures.items ∙ ap (λ n. take n c.args.self.now.lasts.items) (c.saturating_sub-rest.ensures
    ∙ ap (λ n. n - c.args.self.now.accounts) (c.len.ensures ∙ many))) refl refl

pub returns-else-count-before-clause-checkpoints : goal.returns-else-count-before-clause-checkpoints
returns-else-count-before-clause-checkpoints c = λ s us h configured are count.
    CheckpointFacts.pop_none s us h c.args.self.now are (λ full. c.if-count-before.false (count ∙ full))
