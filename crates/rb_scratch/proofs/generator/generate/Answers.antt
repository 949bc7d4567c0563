-- A request makes what its decision comes to.
use Rattle.std.proofs.Common.{◌∙◌, sym}
use Rattle.rb_scratch.proofs.Public.Errors.{error_is}
use Rattle.rb_scratch.proofs.Generated
use Rattle.rb_scratch.proofs.Originals
use Rattle.rb_scratch.proofs.generator.generate.Goals as goal

pub carry_out-requires-clause-plan : goal.carry_out-requires-clause-plan
carry_out-requires-clause-plan c = (c.args.request.now, c.in_ok-effect.ensures.plan)

pub returns-clause-made : goal.returns-clause-made
returns-clause-made c = λ known shows. c.carry_out.ensures.made known shows
    ∙ sym (Generated.planned _ _ _ known _ _ c.in_ok-effect.ensures.plan)

pub returns-in_err-effect-clause-made : goal.returns-in_err-effect-clause-made
returns-in_err-effect-clause-made c = λ known shows. error_is c.from_residual.result c.in_err-effect.field-0.0 c.from_residual.ensures.1
    ∙ sym (Generated.unplanned _ _ _ known _ _ c.in_err-effect.ensures.plan)

pub returns-clause-kind : goal.returns-clause-kind
returns-clause-kind c =
    Originals.of_kind c.carry_out.result _ _ c.carry_out.ensures.kind (Originals.granted c.args.ledger.now.settings
    c.args.ledger.now.entries c.args.request.now _ c.in_ok-effect.ensures.plan)

pub returns-clause-original : goal.returns-clause-original
returns-clause-original c = Originals.of_request _ _ _ _ c.carry_out.result c.carry_out.ensures.original c.in_ok-effect.ensures.plan
