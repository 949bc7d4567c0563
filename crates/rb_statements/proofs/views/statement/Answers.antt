use Rattle.std.proofs.Common.{ap, ◌∙◌}
use Rattle.std.specs.Prelude.{slice_index}
use Rattle.rb_money.specs.Settings.{Settings}
use Rattle.rb_statements.proofs.Steps
use Rattle.rb_statements.proofs.views.statement.Goals as goal

pub returns-in-Ok-clause-shown : goal.returns-in-Ok-clause-shown
returns-in-Ok-clause-shown c =
    Steps.shown _ _ c.args.place _ _ _ (c.in-Some.ensures.start ∙ ap (λ ns. slice_index ns c.args.place.0) (c.accounts.ensures.starts
    ∙ ap (λ (s : Settings). s.starts) c.config-config.ensures.same))
    (c.new.ensures ∙ c.in-Ok.ensures) c.in-Some-balance.ensures.sum
