-- A site's file is repaired, and its journal begins.
use Rattle.std.proofs.Common.{◌≡◌, ◌∙◌, ◌++◌, ⊎_elim, inl, inr, ap}
use Rattle.rb_journal.specs.Alone.{AreEither}
use Rattle.rb_journal.specs.Host.{LeavesOnly}
use Rattle.rb_journal.specs.Journal.{IsBeforeOrAfter, IsLeftAs}
use Rattle.rb_journal.specs.Lines.{recovered}
use Rattle.rb_journal.proofs.Public.Moments.{runs_on, weaker}
use Rattle.rb_run_site.specs.Journals.{journal_of}
use Rattle.rb_run_site.proofs.Going.{Begins, begins}
use Rattle.rb_run_site.proofs.opening.Opened.begin.Given.{Over}
use Rattle.rb_run_site.proofs.opening.Opened.begin.Goals.{After-append, After-settings_are_configured}
use Rattle.rb_run_site.proofs.opening.Opened.begin.Goals as goal

-- what the journal is to begin with makes it the site's
adds : (g : Over) (c : After-settings_are_configured g)
    → Begins (recovered c.args.bytes.now) c.args.self.now.responder.node.site c.args.self.now.first.items
adds g c = begins (recovered c.args.bytes.now) c.args.self.now.responder.node.site c.args.self.now.first.items
    c.settings_are_configured.ensures.line c.requires.journal c.requires.begins

pub append-requires-clause-lines : goal.append-requires-clause-lines
append-requires-clause-lines g c = (adds g (goal.at.append-requires-clause-lines g c).After-settings_are_configured).batch

-- so it is once that is added
whole : (g : Over) (c : After-append g)
    → recovered (g.H.Host.content c.in-Ok.journal.host) ++ recovered c.args.self.now.first.items
    ≡ journal_of c.args.self.now.responder.node.site
whole g c = ap (λ ls. ls ++ recovered c.args.self.now.first.items) c.in-Ok.ensures.lines
    ∙ (adds g (goal.at.After-append g c).After-settings_are_configured).whole

-- a crash leaves the lines from before, or the journal's
moments : (g : Over) (c : After-append g) → LeavesOnly g.H.Host.moment g.H.Host.left_since c.args.host c.append.new.self.host
    (λ f d. AreEither (recovered c.args.bytes.now) (journal_of c.args.self.now.responder.node.site) (recovered f)
    × (d ≡ g.H.Host.output c.args.host))
moments g c =
    let host = g.H.Host in
    let x = c.args.self.now.responder.node.site in
    let mid = c.in-Ok.journal.host in
    let lines = recovered c.args.bytes.now in
    let first = c.args.self.now.first.items in
    runs_on host.moment host.left_since c.args.host mid c.append.new.self.host _
    (IsBeforeOrAfter (recovered (host.content mid)) (recovered first) (host.output mid))
    (weaker host.moment host.left_since c.args.host mid (IsLeftAs lines (host.output c.args.host)) _ c.in-Ok.ensures.any_moment
    (λ f d at. (inl at.0, at.1)))
    c.append.ensures.any_moment
    (λ f d at. (
      ⊎_elim (λ (was : recovered f ≡ recovered (host.content mid)). inl (was ∙ c.in-Ok.ensures.lines))
          (λ (now : recovered f ≡ recovered (host.content mid) ++ recovered first). inr (now ∙ whole g c)) at.0,
      at.1 ∙ c.in-Ok.ensures.output,
    ))

pub returns-in-Ok-append-clause-lines : goal.returns-in-Ok-append-clause-lines
returns-in-Ok-append-clause-lines g c =
    c.in-Ok-append.ensures.lines ∙ whole g (goal.at.returns-in-Ok-append-clause-lines g c).After-append

pub returns-in-Ok-append-clause-any_moment : goal.returns-in-Ok-append-clause-any_moment
returns-in-Ok-append-clause-any_moment g c = moments g (goal.at.returns-in-Ok-append-clause-any_moment g c).After-append

pub returns-in-Err-append-clause-any_moment_err : goal.returns-in-Err-append-clause-any_moment_err
returns-in-Err-append-clause-any_moment_err g c =
    moments g (goal.at.returns-in-Err-append-clause-any_moment_err g c).After-append
