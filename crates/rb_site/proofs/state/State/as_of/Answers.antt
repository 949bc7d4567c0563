-- A balance is answered or refused as the model says.
use Rattle.std.proofs.Common.{◌∙◌, ap}
use Rattle.rb_statements.specs.Statements.{balance_as_of}
use Rattle.rb_site.specs.States.{SiteState, plain}
use Rattle.rb_site.proofs.Handlers.{refuses_as_of, answers_as_of}
use Rattle.rb_site.proofs.state.State.as_of.Goals as goal

pub returns-in-Ok : goal.returns-in-Ok
returns-in-Ok c = answers_as_of c.args.self.now c.args.place c.args.position c.in-Ok.cents (plain c.give.new.place)
    (c.in-Ok.ensures ∙ ap (λ s. balance_as_of s c.ledger.result.now.entries c.args.place c.args.position) c.ledger.ensures.settings
    ∙ ap (λ us. balance_as_of c.self.inside.recorded.settings us c.args.place c.args.position) c.ledger.ensures.entries
    ∙ ap (λ (z : SiteState). balance_as_of z.settings z.site.ops c.args.place c.args.position) c.self.view_is)
    c.give.ensures

pub returns-in-Err : goal.returns-in-Err
returns-in-Err c = refuses_as_of c.args.self.now c.args.place c.args.position c.in-Err.why (plain c.give-in-Err.new.place)
    (c.in-Err.ensures ∙ ap (λ s. balance_as_of s c.ledger.result.now.entries c.args.place c.args.position) c.ledger.ensures.settings
    ∙ ap (λ us. balance_as_of c.self.inside.recorded.settings us c.args.place c.args.position) c.ledger.ensures.entries
    ∙ ap (λ (z : SiteState). balance_as_of z.settings z.site.ops c.args.place c.args.position) c.self.view_is)
    c.give-in-Err.ensures
