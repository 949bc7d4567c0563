-- The history's length is that of the model site's.
use Rattle.std.proofs.Common.{◌∙◌, ap, sym}
use Rattle.std.proofs.lemmas.List.{length-map}
use Rattle.std.specs.Prelude.{nat_le}
use Rattle.rb_money.specs.Settings.{Settings}
use Rattle.rb_money.specs.declared.limits.Limits.{Limits}
use Rattle.rb_site.specs.Events.{is_full}
use Rattle.rb_site.specs.Seen.{SeenSite, state_of}
use Rattle.rb_site.proofs.site.Site.is_full.Goals as goal
use Rattle.rb_site.proofs.Public.Outcomes.{is_full-state}

pub returns : goal.returns
returns g c =
    ap (λ (l : Limits). nat_le l.history c.len.result) (c.limits.ensures ∙ ap (λ (s : Settings). s.limits) c.config.ensures)
    ∙ ap (nat_le c.self.inside.state.settings.limits.history) (c.len.ensures ∙ c.self.inside.history.ok.0
    ∙ sym (length-map c.self.inside.history.items g.E.KeepsEntry.entry))
    ∙ is_full-state _ c.self.invariant.0.kept
    ∙ ap (λ (x : SeenSite). is_full x.settings (state_of x)) c.self.view_is
