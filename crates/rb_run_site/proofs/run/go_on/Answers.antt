-- A site goes on over its journal.
use Rattle.std.proofs.Common.{arith, ◌≡◌, ◌∙◌, ◌++◌, ◌<◌, ⊎_elim, inl, inr, sym, ap, subst}
use Rattle.rb_journal.specs.Host.{LeavesOnly}
use Rattle.rb_journal.specs.Journal.{IsAppended, IsDurable}
use Rattle.rb_journal.specs.Lines.{IsIntact, recovered}
use Rattle.rb_journal.specs.Ends.{IsFull}
use Rattle.rb_journal.specs.Run.{IsRunOfTurns, served_input}
use Rattle.rb_run_site.specs.Journals.{SiteAnswers, journal_of}
use Rattle.rb_run_site.specs.Runs.{IsNewOrAnswered}
use Rattle.rb_run_site.proofs.Going.{Begins, all_answered, answered, begins, begun}
use Rattle.rb_journal.proofs.Public.Moments.{both, runs_on, weaker}
use Rattle.rb_run_site.proofs.run.go_on.Given.{Over}
use Rattle.rb_run_site.proofs.run.go_on.Goals.{After-commit_and_put_out, After-settings_are_configured, In_ok-commit_and_put_out}
use Rattle.rb_run_site.proofs.run.go_on.Goals as goal

-- what the journal is to begin with makes it the site's
adds : (g : Over) (c : After-settings_are_configured g) → Begins (recovered (g.H.Host.content c.args.journal.now.host))
    c.args.opened.now.responder.node.site c.args.opened.now.first.items
adds g c = begins (recovered (g.H.Host.content c.args.journal.now.host)) c.args.opened.now.responder.node.site
    c.args.opened.now.first.items c.settings_are_configured.ensures.line c.requires.journal c.requires.begins

-- a crash while it begins leaves a new journal, or the site's
beginning : (g : Over) (c : After-commit_and_put_out g) → LeavesOnly g.H.Host.moment g.H.Host.left_since
    c.args.journal.now.host c.commit_and_put_out.new.self.host
    (IsNewOrAnswered g.M.Records.ALL (recovered (g.H.Host.content c.args.journal.now.host))
    c.args.opened.now.responder.node.site c.args.opened.now.sends.items c.args.number
    (served_input c.args.buffers.now.pending (g.S.Source.remaining c.args.reader.now))
    (g.H.Host.output c.args.journal.now.host))
beginning g c =
    let host = g.H.Host in
    let x = c.args.opened.now.responder.node.site in
    let was = c.args.journal.now.host in
    let mid = c.commit_and_put_out.new.self.host in
    let lines = recovered (host.content was) in
    let output = host.output was in
    let first = c.args.opened.now.first.items in
    let reply = c.deref.result.now in
    let sends = c.args.opened.now.sends.items in
    let input = served_input c.args.buffers.now.pending (g.S.Source.remaining c.args.reader.now) in
    weaker host.moment host.left_since was mid
    (λ f d. IsDurable lines (recovered first) output reply f d × (IsAppended lines first f × IsIntact f))
    (IsNewOrAnswered g.M.Records.ALL lines x sends c.args.number input output)
    (both host.moment host.left_since was mid (IsDurable lines (recovered first) output reply)
    (λ f d. IsAppended lines first f × IsIntact f) c.commit_and_put_out.ensures.any_moment c.commit_and_put_out.ensures.appended)
    (λ f d at. begun g.M.Records.ALL lines x first sends reply c.args.number input output f d
    (adds g (goal.at.After-commit_and_put_out g c).After-settings_are_configured) c.deref.ensures.value at.0 at.1.0 at.1.1)

-- once it has begun, it is the site's, and what is sent again was put out
begun_as : (g : Over) (c : In_ok-commit_and_put_out g) →
    (journal_of c.args.opened.now.responder.node.site ≡ recovered (g.H.Host.content c.commit_and_put_out.new.self.host))
    × (g.H.Host.output c.commit_and_put_out.new.self.host ≡ g.H.Host.output c.args.journal.now.host ++ c.args.opened.now.sends.items)
begun_as g c = (
  sym (c.in_ok-commit_and_put_out.ensures.lines ∙ (adds g (goal.at.In_ok-commit_and_put_out g c).After-settings_are_configured).whole),
  c.in_ok-commit_and_put_out.ensures.output ∙ ap (λ l. g.H.Host.output c.args.journal.now.host ++ l) c.deref.ensures.value,
)

pub commit_and_put_out-requires-clause-lines : goal.commit_and_put_out-requires-clause-lines
commit_and_put_out-requires-clause-lines g c =
    (adds g (goal.at.commit_and_put_out-requires-clause-lines g c).After-settings_are_configured).batch

pub returns-in_err-commit_and_put_out-clause-any_moment :
    goal.returns-in_err-commit_and_put_out-clause-any_moment
returns-in_err-commit_and_put_out-clause-any_moment g c =
    beginning g (goal.at.returns-in_err-commit_and_put_out-clause-any_moment g c).After-commit_and_put_out

pub serve-requires-clause-same : goal.serve-requires-clause-same
serve-requires-clause-same g c = (begun_as g (goal.at.serve-requires-clause-same g c).In_ok-commit_and_put_out).0

pub returns-clause-text : goal.returns-clause-text
returns-clause-text g c = λ at_rest.
    let host = g.H.Host in
    let mid = c.commit_and_put_out.new.self.host in
    let new = c.serve.new in
    let is = begun_as g (goal.at.returns-clause-text g c).In_ok-commit_and_put_out in
    all_answered g.M.Records.ALL c.args.opened.now.responder.node.site c.args.opened.now.sends.items c.args.number
    (served_input c.args.buffers.now.pending (g.S.Source.remaining c.args.reader.now)) (g.S.Source.remaining new.reader)
    (host.output c.args.journal.now.host) (recovered (host.content new.journal.host)) (host.output new.journal.host)
    (recovered (host.content mid)) (host.output mid) c.serve.result is.0 is.1 (c.serve.ensures.text at_rest)

pub returns-clause-any_moment : goal.returns-clause-any_moment
returns-clause-any_moment g c =
    let host = g.H.Host in
    let x = c.args.opened.now.responder.node.site in
    let was = c.args.journal.now.host in
    let mid = c.commit_and_put_out.new.self.host in
    let new = c.serve.new.journal.host in
    let lines = recovered (host.content was) in
    let sends = c.args.opened.now.sends.items in
    let input = served_input c.args.buffers.now.pending (g.S.Source.remaining c.args.reader.now) in
    let at = goal.at.returns-clause-any_moment g c in
    let is = begun_as g at.In_ok-commit_and_put_out in
    let turns = IsRunOfTurns (SiteAnswers g.M.Records.ALL) c.args.number input x (recovered (host.content mid)) (host.output mid) in
    runs_on host.moment host.left_since was mid new (IsNewOrAnswered g.M.Records.ALL lines x sends c.args.number input (host.output was))
    (λ f d. turns f d × IsIntact f) (beginning g at.After-commit_and_put_out)
    (both host.moment host.left_since mid new turns (λ f d. IsIntact f) c.serve.ensures.any_moment c.serve.ensures.intact)
    (λ f d run. answered g.M.Records.ALL lines x sends c.args.number input (host.output was) (recovered (host.content mid))
    (host.output mid) f d is.0 is.1 run.0 run.1)

pub returns-clause-journal : goal.returns-clause-journal
returns-clause-journal g c = λ failed.
    let host = g.H.Host in
    let x = c.args.opened.now.responder.node.site in
    let mid = c.commit_and_put_out.new.self.host in
    let new = c.serve.new.journal.host in
    let input = served_input c.args.buffers.now.pending (g.S.Source.remaining c.args.reader.now) in
    let is = begun_as g (goal.at.returns-clause-journal g c).In_ok-commit_and_put_out in
    ⊎_elim (λ (more : host.faults mid < host.faults new). inl (omega (arith, more, c.commit_and_put_out.ensures.cause.later)))
    (λ (full : IsFull (SiteAnswers g.M.Records.ALL) c.args.number input x (recovered (host.content mid))).
    inr (subst (λ ls. IsFull (SiteAnswers g.M.Records.ALL) c.args.number input x ls) (sym is.0) full))
    (c.serve.ensures.journal failed)
