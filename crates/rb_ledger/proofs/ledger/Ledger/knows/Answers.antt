use Rattle.rb_ledger.proofs.Words.{◌∙◌, ap, option_map, Shadow, same_shadow}
use Rattle.rb_ledger.proofs.FoundNames
use Rattle.rb_ledger.proofs.ledger.Ledger.knows.Goals as goal

pub returns-in_err-position : goal.returns-in_err-position
returns-in_err-position c =
    c.from_residual.ensures ∙ ap (option_map (λ (u : Shadow). same_shadow u c.args.shadow.now))
    (FoundNames.found_nothing c.args.self.now.entries c.args.shadow.now.name c.in_err-position.ensures)
