use Rattle.std.proofs.Common.{ap, ◌∙◌}
use Rattle.std.specs.Prelude.{slice_index}
use Rattle.rb_money.specs.Settings.{Settings}
use Rattle.rb_statements.proofs.Steps
use Rattle.rb_statements.proofs.views.empty_statement.Goals as goal

pub returns-clause-shown : goal.returns-clause-shown
returns-clause-shown c =
    Steps.shown _ _ c.args.place _ _ _ (c.in_ok-start.ensures.start ∙ ap (λ ns. slice_index ns c.args.place.0) (c.accounts.ensures.starts
    ∙ ap (λ (s : Settings). s.starts) c.config.ensures.same))
    (c.new-2.ensures ∙ c.new.ensures.items ∙ Steps.none_found _ _ _ _ c.last_on.ensures.last c.if-last_on-gt0.false)
    c.in_ok-balance.ensures.sum
