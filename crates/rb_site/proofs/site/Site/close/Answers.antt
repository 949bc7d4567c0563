-- The report is the site's state.
use Rattle.std.proofs.Common.{◌≡◌, ◌∙◌, Bool, true, false, ap, refl, sym}
use Rattle.rb_money.specs.Settings.{Settings}
use Rattle.rb_shadow.specs.Operations.{clock_of}
use Rattle.rb_site.specs.declared.report.SiteReport.{SiteReport}
use Rattle.rb_site.specs.Events.{ModelSite}
use Rattle.rb_site.specs.Histories.{history_of}
use Rattle.rb_site.specs.Reports.{IsReport, IsReportOf, IsReportUnkept, balances_of, counts_of}
use Rattle.rb_site.specs.Seen.{SeenSite, state_of}
use Rattle.rb_site.specs.States.{without_history}
use Rattle.rb_site.proofs.Public.Seen
use Rattle.rb_site.proofs.site.Site.close.Given.{Over}
use Rattle.rb_site.proofs.site.Site.close.Goals as goal

-- a report is that of a site, whether it keeps its history or not
reported : (b : Bool) (s : Settings) (t : ModelSite) (r : SiteReport) → (b ≡ true → IsReport s t r) → (b ≡ false → IsReportUnkept s t r)
    → IsReportOf b s t r
reported true s t r kept unkept = kept refl
reported false s t r kept unkept = unkept refl

settings : (g : Over) (c : goal.After-reported g) → c.self.inside.state.settings ≡ c.args.self.settings
settings g c = (c.self.invariant.0).settings ∙ ap (λ (x : SeenSite). x.settings) c.self.view_is

site_is : (g : Over) (c : goal.After-reported g) → c.self.inside.state.site ≡ without_history (state_of c.args.self)
site_is g c = (c.self.invariant.0).site ∙ ap (λ (x : SeenSite). without_history (state_of x)) c.self.view_is

history : (g : Over) (c : goal.After-reported g) → g.E.KeepsEntry.KEEPS ≡ true →
    c.reported.result.items ≡ history_of c.args.self.settings (state_of c.args.self)
history g c keeps =
    c.reported.ensures.kept keeps ∙ sym (Seen.entries-state _ (c.self.invariant.0).kept)
    ∙ ap (λ (x : SeenSite). history_of x.settings (state_of x)) c.self.view_is

pub returns : goal.returns
returns g c =
    let s = settings g c in
    let ops : c.self.inside.state.site.ops ≡ (state_of c.args.self).ops = ap (λ (t : ModelSite). t.ops) (site_is g c) in
    let me = c.me-me.ensures.same ∙ sym (Seen.me-state c.args.self) in
    let entries = c.close-entries.ensures.entries ∙ ops in
    let clock = c.close-entries.ensures.clock ∙ ap clock_of ops in
    let token_me = c.close-entries.ensures.me ∙ ap (λ (t : ModelSite). t.me) (site_is g c) in
    let token_sites = c.close-entries.ensures.sites ∙ ap (λ (z : Settings). z.sites) s in
    let token_limits = c.close-entries.ensures.limits ∙ ap (λ (z : Settings). z.limits) s in
    let token = c.close-entries.ensures.token ∙ ap (λ (t : ModelSite). t.token) (site_is g c) in
    reported g.E.KeepsEntry.KEEPS _ _ _
    (λ keeps. record {
      me = me;
      balances =
          c.filled-balances.ensures.balances (c.KEEPS.ensures ∙ keeps)
          ∙ ap (λ z. balances_of z c.ledger.result.now.entries) (c.ledger.ensures.settings ∙ s)
          ∙ ap (balances_of c.args.self.settings) (c.ledger.ensures.entries ∙ ops);
      entries = entries;
      counts = c.filled-balances.ensures.counts (c.KEEPS.ensures ∙ keeps) ∙ ap counts_of (c.ledger.ensures.entries ∙ ops);
      clock = clock;
      token_me = token_me;
      token_sites = token_sites;
      token_limits = token_limits;
      token = token;
      waiting = c.waiting-waiting.ensures;
      history = history g c keeps;
    })
    (λ unkept. record {
      me = me;
      balances = (c.filled-balances.ensures.unreported (c.KEEPS.ensures ∙ unkept)).0;
      entries = entries;
      counts = (c.filled-balances.ensures.unreported (c.KEEPS.ensures ∙ unkept)).1;
      clock = clock;
      token_me = token_me;
      token_sites = token_sites;
      token_limits = token_limits;
      token = token;
      waiting = c.waiting-waiting.ensures;
      history = c.reported.ensures.unkept unkept;
    })
