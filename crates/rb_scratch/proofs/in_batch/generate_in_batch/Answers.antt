-- A request of a batch makes what its decision comes to.
use Rattle.std.proofs.Common.{ap, sym, ◌∙◌}
use Rattle.rb_scratch.proofs.InBatch
use Rattle.rb_scratch.proofs.in_batch.generate_in_batch.Goals as goal

pub returns-in-Err-clause-made : goal.returns-in-Err-clause-made
returns-in-Err-clause-made c = λ known shows. sym (InBatch.refused_in_batch _ _ _ known _ _ c.in-Err.ensures.plan)

pub returns-in-Declined-clause-made : goal.returns-in-Declined-clause-made
returns-in-Declined-clause-made c = λ known shows. sym (InBatch.declined_in_batch _ _ _ known _ _ c.in-Ok.ensures.plan c.in-Declined.is)

pub carry_out-requires-clause-plan : goal.carry_out-requires-clause-plan
carry_out-requires-clause-plan c = (c.args.request.now, c.in-Ok.ensures.plan)

pub returns-in-Ok-carry_out-clause-made : goal.returns-in-Ok-carry_out-clause-made
returns-in-Ok-carry_out-clause-made c = λ known shows. ap InBatch.stopped (c.in-Ok-carry_out.ensures.made known shows)
    ∙ sym (InBatch.plain_in_batch _ _ _ known _ _ c.in-Ok.ensures.plan c.in_default.not-Declined)

pub returns-in-Err-carry_out-clause-made : goal.returns-in-Err-carry_out-clause-made
returns-in-Err-carry_out-clause-made c = λ known shows. ap InBatch.stopped (c.in-Err-carry_out.ensures.made known shows)
    ∙ sym (InBatch.plain_in_batch _ _ _ known _ _ c.in-Ok.ensures.plan c.in_default.not-Declined)
