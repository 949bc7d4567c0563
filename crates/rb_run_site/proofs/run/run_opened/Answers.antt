-- The file is opened, and then the site goes on.
use Rattle.std.proofs.Common.{rules, arith, ◌≡◌, ◌<◌, ◌∙◌, ⊎_elim, inl, inr, Err, ap, subst, sym}
use Rattle.rb_journal.specs.Host.{LeavesOnly}
use Rattle.rb_journal.specs.Journal.{IsLeftAs, IsRepaired}
use Rattle.rb_journal.specs.Lines.{IsIntact, recovered}
use Rattle.rb_journal.specs.Ends.{IsFull}
use Rattle.rb_journal.specs.Run.{served_input}
use Rattle.rb_journal.specs.declared.fault.ServeFault.TheVariants.{Journal as JournalStopped}
use Rattle.rb_journal.specs.Faults.{fault_of_host}
use Rattle.rb_run_site.specs.Ends.{AnswersAll, IsAtRest}
use Rattle.rb_run_site.specs.Faults.{fault_of_serve}
use Rattle.rb_run_site.specs.Journals.{SiteAnswers, journal_of}
use Rattle.rb_run_site.specs.declared.fault.SiteFault.TheVariants.{Journal as DiskFailed, Read as NotRead}
use Rattle.rb_run_site.specs.Openings.{IsToBegin}
use Rattle.rb_run_site.specs.Runs.{IsNewOrAnswered}
use Rattle.rb_run_site.proofs.Going.{from_same, only_journal, opened}
use Rattle.rb_run_site.proofs.Stopped.{never_read, not_begun, only_disk, stopped}
use Rattle.rb_journal.proofs.Public.Moments.{both as two, runs_on, weaker}
use Rattle.rb_run_site.proofs.run.run_opened.Given.{Over}
use Rattle.rb_run_site.proofs.run.run_opened.Goals.{After-deref, After-from-in-Err-2, After-go_on-ended}
use Rattle.rb_run_site.proofs.run.run_opened.Goals as goal

-- while the file is opened, a crash leaves a new journal, or the site's
over_file : (g : Over) (c : After-deref g) (new : _) → LeavesOnly g.H.Host.moment g.H.Host.left_since c.args.host new
    (IsLeftAs (recovered c.deref.result.now) (g.H.Host.output c.args.host))
    → LeavesOnly g.H.Host.moment g.H.Host.left_since c.args.host new
    (λ e _. IsRepaired c.deref.result.now e × (IsIntact c.deref.result.now → IsIntact e))
    → LeavesOnly g.H.Host.moment g.H.Host.left_since c.args.host new
    (IsNewOrAnswered g.M.Records.ALL (recovered c.args.bytes.items) c.args.opened.responder.node.site c.args.opened.sends.items
    c.args.number (served_input c.args.buffers.now.pending (g.S.Source.remaining c.args.reader.now)) (g.H.Host.output c.args.host))
over_file g c new left repaired =
    let host = g.H.Host in
    let was = c.args.host in
    let of = c.args.opened in
    let both = subst (λ f. LeavesOnly host.moment host.left_since was new
    (λ e d. IsLeftAs (recovered f) (host.output was) e d × (IsRepaired f e × (IsIntact f → IsIntact e)))) c.deref.ensures.value
    (two host.moment host.left_since was new _ _ left repaired) in
    weaker host.moment host.left_since was new _ _ both
    (λ e d at. opened g.M.Records.ALL c.args.bytes.items of.responder.node.site of.first.items of.sends.items _ _ (host.output was) e d
    c.requires.begins c.requires.undamaged at.0 at.1.0 at.1.1)

-- a crash leaves a new journal, or the site's with some of the lines answered
run : (g : Over) (c : After-go_on-ended g) → LeavesOnly g.H.Host.moment g.H.Host.left_since c.args.host
    c.go_on-ended.new.journal.host
    (IsNewOrAnswered g.M.Records.ALL (recovered c.args.bytes.items) c.args.opened.responder.node.site c.args.opened.sends.items
    c.args.number (served_input c.args.buffers.now.pending (g.S.Source.remaining c.args.reader.now)) (g.H.Host.output c.args.host))
run g c =
    let host = g.H.Host in
    runs_on host.moment host.left_since _ c.in-Ok.journal.host _ _ _
    (over_file g (goal.at.After-go_on-ended g c).After-deref _ c.in-Ok.ensures.any_moment c.in-Ok.ensures.repaired)
    c.go_on-ended.ensures.any_moment
    (λ f d run. from_same g.M.Records.ALL _ _ _ _ _ _ _ _ f d
    (c.in-Ok.ensures.lines ∙ ap recovered c.deref.ensures.value) c.in-Ok.ensures.output run)

-- why the file can't be opened is passed on
passed : (g : Over) (c : After-from-in-Err-2 g) → c.from-in-Err-2.result ≡ fault_of_serve (fault_of_host c.in-Err.error)
passed g c = c.from-in-Err-2.ensures ∙ ap fault_of_serve c.from-in-Err.ensures

pub returns-in-Ok-ended-clause-any_moment : goal.returns-in-Ok-ended-clause-any_moment
returns-in-Ok-ended-clause-any_moment g c = run g (goal.at.returns-in-Ok-ended-clause-any_moment g c).After-go_on-ended

pub returns-in-Err-ended-clause-any_moment : goal.returns-in-Err-ended-clause-any_moment
returns-in-Err-ended-clause-any_moment g c =
    run g (goal.at.returns-in-Err-ended-clause-any_moment g c).After-go_on-ended

pub returns-in-Err-ended-clause-journal : goal.returns-in-Err-ended-clause-journal
returns-in-Err-ended-clause-journal g c = λ failed.
    let host = g.H.Host in
    let mid = c.in-Ok.journal.host in
    let new = c.go_on-ended.new.journal.host in
    let x = c.args.opened.responder.node.site in
    let input = served_input c.args.buffers.now.pending (g.S.Source.remaining c.args.reader.now) in
    let fault = c.in-Err-ended.fault in
    let same : c.from.result ≡ fault_of_serve fault = search rules in
    let passed : c.from.result ≡ DiskFailed = cc failed in
    let is : fault ≡ JournalStopped = only_journal fault (sym same ∙ passed) in
    ⊎_elim (λ (more : host.faults mid < host.faults new). inl (omega (arith, more, c.in-Ok.ensures.cause)))
    (λ (full : IsFull (SiteAnswers g.M.Records.ALL) c.args.number input x (journal_of x)). inr full)
    (c.in-Err-ended.ensures.journal (ap Err is))

pub go_on-ended-requires-clause-begins : goal.go_on-ended-requires-clause-begins
go_on-ended-requires-clause-begins g c =
    subst (λ ls. IsToBegin ls c.args.opened.responder.node.site c.args.opened.first.items)
    (sym (c.in-Ok.ensures.lines ∙ ap recovered c.deref.ensures.value)) c.requires.begins

pub returns-in-Ok-ended-clause-ended : goal.returns-in-Ok-ended-clause-ended
returns-in-Ok-ended-clause-ended g c =
    let text = rw c.in-Ok.ensures.output at c.in-Ok-ended.ensures.text in
    let settled = c.in-Ok-ended.ensures.settled tt in
    (text tt, (settled.file, settled.durable))

pub returns-in-Err-ended-clause-ended : goal.returns-in-Err-ended-clause-ended
returns-in-Err-ended-clause-ended g c =
    let host = g.H.Host in
    let new = c.go_on-ended.new.journal.host in
    let opened = c.args.opened in
    let input = served_input c.args.buffers.now.pending (g.S.Source.remaining c.args.reader.now) in
    let fault = c.in-Err-ended.fault in
    let text = rw c.in-Ok.ensures.output at c.in-Err-ended.ensures.text in
    let settled = c.in-Err-ended.ensures.settled in
    stopped (λ ended. AnswersAll g.M.Records.ALL opened.responder.node.site opened.sends.items c.args.number input
    (g.S.Source.remaining c.go_on-ended.new.reader) (host.output c.args.host) (recovered (host.content new)) (host.output new) ended
    × IsAtRest (host.content new) (host.may_leave new)) fault c.from.result c.from.ensures
    (λ at. (text at, ((settled at).file, (settled at).durable)))

pub returns-in-Err-clause-ended : goal.returns-in-Err-clause-ended
returns-in-Err-clause-ended g c =
    let host = g.H.Host in
    let new = c.in-Err.host in
    let opened = c.args.opened in
    let left = g.S.Source.remaining c.args.reader.now in
    not_begun (λ ended. AnswersAll g.M.Records.ALL opened.responder.node.site opened.sends.items c.args.number
    (served_input c.args.buffers.now.pending left) left (host.output c.args.host) (recovered (host.content new)) (host.output new) ended
    × IsAtRest (host.content new) (host.may_leave new)) c.in-Err.error c.from-in-Err-2.result
    (passed g (goal.at.returns-in-Err-clause-ended g c).After-from-in-Err-2)

pub returns-in-Err-clause-any_moment : goal.returns-in-Err-clause-any_moment
returns-in-Err-clause-any_moment g c =
    over_file g (goal.at.returns-in-Err-clause-any_moment g c).After-deref _ c.in-Err.ensures.any_moment_err c.in-Err.ensures.repaired_err

pub returns-in-Err-clause-read : goal.returns-in-Err-clause-read
returns-in-Err-clause-read g c = λ failed.
    let is : c.from-in-Err-2.result ≡ NotRead = cc failed in
    let cause = sym (passed g (goal.at.returns-in-Err-clause-read g c).After-from-in-Err-2) ∙ is in
    absurd (never_read c.in-Err.error cause)

pub returns-in-Err-clause-journal : goal.returns-in-Err-clause-journal
returns-in-Err-clause-journal g c = λ failed.
    let is : c.from-in-Err-2.result ≡ DiskFailed = cc failed in
    let cause = sym (passed g (goal.at.returns-in-Err-clause-journal g c).After-from-in-Err-2) ∙ is in
    inl (c.in-Err.ensures.cause.failed (only_disk c.in-Err.error cause c.in-Err.ensures.cause.full))
