use Rattle.std.proofs.Common.{ap, sym, ◌∙◌}
use Rattle.std.specs.Prelude.{is_some}
use Rattle.rb_scratch.proofs.Public.Errors.{passed_on}
use Rattle.rb_scratch.proofs.Permits
use Rattle.rb_scratch.proofs.generator.permit_red.Goals as goal

pub returns-in_err-may_red : goal.returns-in_err-may_red
returns-in_err-may_red c = λ known shows. passed_on c.from_residual.result _ _ c.in_err-may_red.field-0.0 c.from_residual.ensures.1
    (Permits.red_refused _ _ known _ _ _ c.clock.ensures.clock (c.in_err-may_red.ensures known shows))

pub returns-then-is_none : goal.returns-then-is_none
returns-then-is_none c = λ known shows. Permits.red_plain _ _ known _ _ c.clock.ensures.clock (c.in_ok-may_red.ensures known shows)
    (sym (ap is_some c.target.ensures) ∙ c.if-is_none.ensures)

pub returns-then-would_overdraw : goal.returns-then-would_overdraw
returns-then-would_overdraw c = λ known shows. Permits.red_overdraws _ _ known _ _ c.clock.ensures.clock
    (c.in_ok-may_red.ensures known shows) (sym (ap is_some c.target.ensures) ∙ c.if-is_none.ensures)
    (sym c.would_overdraw.ensures ∙ c.if-would_overdraw.true)

pub returns : goal.returns
returns c = λ known shows. Permits.red_covered _ _ known _ _ c.clock.ensures.clock (c.in_ok-may_red.ensures known shows)
    (sym c.would_overdraw.ensures ∙ c.if-would_overdraw.false)
