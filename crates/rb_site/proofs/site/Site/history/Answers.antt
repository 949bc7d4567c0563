-- The run of the history leaves that history.
use Rattle.std.proofs.Common.{◌≡◌, subst}
use Rattle.rb_site.specs.Histories.{events_of}
use Rattle.rb_site.specs.Seen.{SeenSite, state_of}
use Rattle.rb_site.proofs.Public.Seen.{history-state}
use Rattle.rb_site.proofs.site.Site.history.Goals as goal

pub returns-clause-run : goal.returns-clause-run
returns-clause-run c =
    let P : SeenSite → Type 0 = λ x. (state_of x).history ≡ events_of x.entries in
    subst P c.self.view_is (history-state _ c.self.invariant.0.kept)
