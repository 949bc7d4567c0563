use Rattle.std.proofs.Common.{sym, ◌∙◌}
use Rattle.rb_ledger.proofs.CheckpointFacts
use Rattle.rb_ledger.proofs.checkpoints.Checkpoints.push.Goals as goal

pub returns-then-count-self-clause-checkpoints : goal.returns-then-count-self-clause-checkpoints
returns-then-count-self-clause-checkpoints c = λ s us h configured are heads count.
    CheckpointFacts.push_row s us h c.args.self.now c.push_row.new.self c.args.heads.now configured are (sym count ∙ c.if-count-self.true)
    heads c.push_row.ensures.lasts c.push_row.ensures.accounts c.push_row.ensures.due

pub returns-else-count-self-clause-checkpoints : goal.returns-else-count-self-clause-checkpoints
returns-else-count-self-clause-checkpoints c = λ s us h configured are heads count.
    CheckpointFacts.push_none s us h c.args.self.now are (λ full. c.if-count-self.false (count ∙ full))
