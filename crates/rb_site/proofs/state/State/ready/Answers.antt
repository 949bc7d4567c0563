use Rattle.std.proofs.Common.{◌∙◌, ap}
use Rattle.rb_shadow.specs.Operations.{clock_of}
use Rattle.rb_site.specs.States.{SiteState}
use Rattle.rb_site.proofs.Ready.{none_ready}
use Rattle.rb_site.proofs.state.State.ready.Goals as goal

pub returns-clause-none : goal.returns-clause-none
returns-clause-none c =
    none_ready c.next_ready.result c.args.self.now.site _ c.clock.result.now (ap (λ (s : SiteState). s.site.held) c.self.view_is)
    (c.clock.ensures.clock ∙ ap clock_of (c.ledger.ensures.entries ∙ ap (λ (s : SiteState). s.site.ops) c.self.view_is))
    c.next_ready.ensures.none
