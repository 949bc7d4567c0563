use Rattle.std.proofs.Common.{◌∙◌, ap, subst}
use Rattle.std.specs.Prelude.{IfNone}
use Rattle.rb_site.specs.Events.{ModelSite}
use Rattle.rb_site.specs.Ready.{NoneIsReady}
use Rattle.rb_site.specs.Seen.{SeenSite, state_of}
use Rattle.rb_site.specs.States.{without_history}
use Rattle.rb_site.proofs.site.Site.ready.Goals as goal

pub returns-clause-none : goal.returns-clause-none
returns-clause-none g c =
    subst (λ (t : ModelSite). IfNone c.ready.result (NoneIsReady t))
    (c.self.invariant.0.site ∙ ap (λ (x : SeenSite). without_history (state_of x)) c.self.view_is) c.ready.ensures.none
