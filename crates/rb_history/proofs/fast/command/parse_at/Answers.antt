use Rattle.rb_history.proofs.Words.{command_at, ap, arith, codes, ◌++◌, ◌∙◌}
use Rattle.rb_history.proofs.OwnLines.{own_line}
use Rattle.rb_history.proofs.fast.command.parse_at.Goals as goal

pub returns-clause-value : goal.returns-clause-value
returns-clause-value c =
    ap (λ l. command_at c.args.config.now (codes "{\"" ++ l)) c.in_ok-first.ensures
    ∙ own_line _ c.sites-sites.ensures.configured c.in_ok-first.first _ _ _ _ c.in_ok-rest.ensures (omega arith) c.in_ok-site.ensures

pub returns-clause-own : goal.returns-clause-own
returns-clause-own c = c.in_ok-rest.ensures.0
