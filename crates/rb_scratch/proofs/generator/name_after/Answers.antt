use Rattle.std.proofs.Common.{◌+◌, ◌<◌, subst, ap, sym, ◌∙◌, arith}
use Rattle.rb_money.specs.Settings.{Settings}
use Rattle.rb_money.specs.declared.limits.Limits.{Limits}
use Rattle.rb_shadow.specs.declared.op_name.OpName.TheVariants.{Blue, Red}
use Rattle.rb_shadow.specs.declared.colour.Colour.TheVariants.{Blue as BlueColour, Red as RedColour}
use Rattle.rb_shadow.specs.Operations.{number_of}
use Rattle.rb_shadow.specs.Sound.{limit_of}
use Rattle.rb_scratch.specs.Requests.{next_name}
use Rattle.rb_scratch.proofs.Counts
use Rattle.rb_scratch.proofs.Public.Errors.{passed_on}
use Rattle.rb_scratch.proofs.generator.name_after.Goals as goal

pub returns-in_err-n-in-Blue : goal.returns-in_err-n-in-Blue
returns-in_err-n-in-Blue c =
    let limits = c.limits-limits.ensures ∙ ap (λ (s : Settings). s.limits) c.config.ensures.same in
    let over : limit_of c.args.ledger.now.settings.limits (next_name c.args.me c.args.ledger.now.entries BlueColour)
    < number_of (next_name c.args.me c.args.ledger.now.entries BlueColour) =
    omega (
      arith,
      c.in_err-n-in-Blue.ensures.1,
      ap (λ (l : Limits). l.blue) limits,
      Counts.counts_blue c.args.ledger.now.entries _ c.args.me (c.entries-counts.ensures ∙ c.clock.ensures.clock) c.requires,
    ) in
    passed_on c.from_residual.result _ _ c.in_err-n-in-Blue.field-0.0 c.from_residual.ensures.1 (
      c.in_err-n-in-Blue.ensures.0,
      subst (λ k. limit_of c.args.ledger.now.settings.limits (next_name c.args.me c.args.ledger.now.entries k)
          < number_of (next_name c.args.me c.args.ledger.now.entries k)) (sym c.in-Blue.is) over,
    )

pub returns-in_ok-n-in-Blue : goal.returns-in_ok-n-in-Blue
returns-in_ok-n-in-Blue c =
    let limits = c.limits-limits.ensures ∙ ap (λ (s : Settings). s.limits) c.config.ensures.same in
    let counted = Counts.counts_blue _ _ c.args.me (c.entries-counts.ensures ∙ c.clock.ensures.clock) c.requires in (
      ap (λ n. Blue c.args.me n) (c.in_ok-n-in-Blue.ensures.0 ∙ ap (λ k. k + 1) counted)
          ∙ ap (next_name c.args.me c.args.ledger.now.entries) (sym c.in-Blue.is),
      omega (arith, c.in_ok-n-in-Blue.ensures.0, c.in_ok-n-in-Blue.ensures.1, ap (λ (l : Limits). l.blue) limits),
    )

pub returns-in_err-n-in-Red : goal.returns-in_err-n-in-Red
returns-in_err-n-in-Red c =
    let limits = c.limits-limits.ensures ∙ ap (λ (s : Settings). s.limits) c.config.ensures.same in
    let over : limit_of c.args.ledger.now.settings.limits (next_name c.args.me c.args.ledger.now.entries RedColour)
    < number_of (next_name c.args.me c.args.ledger.now.entries RedColour) =
    omega (
      arith,
      c.in_err-n-in-Red.ensures.1,
      ap (λ (l : Limits). l.red) limits,
      Counts.counts_red c.args.ledger.now.entries _ (c.entries-counts.ensures ∙ c.clock.ensures.clock),
    ) in
    passed_on c.from_residual-in_err-n-in-Red.result _ _ c.in_err-n-in-Red.field-0.0 c.from_residual-in_err-n-in-Red.ensures.1 (
      c.in_err-n-in-Red.ensures.0,
      subst (λ k. limit_of c.args.ledger.now.settings.limits (next_name c.args.me c.args.ledger.now.entries k)
          < number_of (next_name c.args.me c.args.ledger.now.entries k)) (sym c.in-Red.is) over,
    )

pub returns-in_ok-n-in-Red : goal.returns-in_ok-n-in-Red
returns-in_ok-n-in-Red c =
    let limits = c.limits-limits.ensures ∙ ap (λ (s : Settings). s.limits) c.config.ensures.same in
    let counted = Counts.counts_red c.args.ledger.now.entries _ (c.entries-counts.ensures ∙ c.clock.ensures.clock) in (
      ap (λ n. Red n) (c.in_ok-n-in-Red.ensures.0 ∙ ap (λ k. k + 1) counted)
          ∙ ap (next_name c.args.me c.args.ledger.now.entries) (sym c.in-Red.is),
      omega (arith, c.in_ok-n-in-Red.ensures.0, c.in_ok-n-in-Red.ensures.1, ap (λ (l : Limits). l.red) limits),
    )
