-- A site is opened, and then it goes on.
use Rattle.std.proofs.Common.{◌≡◌, ◌<◌, ◌∙◌, ⊎_elim, inl, inr, refl, subst, sym, ℕ, Bool, List, Option}
use Rattle.rb_journal.specs.Host.{LeavesOnly}
use Rattle.rb_journal.specs.Lines.{recovered}
use Rattle.rb_journal.specs.Ends.{IsFull}
use Rattle.rb_journal.specs.Run.{served_input}
use Rattle.rb_run_site.specs.Ends.{AnswersAll, AnswersBehind, IsAtRest}
use Rattle.rb_run_site.specs.Journals.{SiteAnswers, journal_of}
use Rattle.rb_run_site.specs.Openings.{IsOpeningCause, OpensSite}
use Rattle.rb_run_site.specs.Runs.{Found, IsSiteRun, SiteRun}
use Rattle.rb_run_site.specs.Steps.{IsRunOfSteps}
use Rattle.rb_run_site.proofs.Behind.{ends_behind, full_behind, ran, run_behind, stopped_there}
use Rattle.rb_run_site.proofs.Stepped.{stepped_run}
use Rattle.rb_journal.proofs.Public.Moments.{started, weaker}
use Rattle.rb_run_site.proofs.run.run_site.Given.{Over}
use Rattle.rb_run_site.proofs.run.run_site.Goals.{After-is_sealed, After-run_opened}
use Rattle.rb_run_site.proofs.run.run_site.Goals as goal

-- the run of these
abbrev run_of : Bool → ℕ → List ℕ → ℕ → Option (List ℕ) → SiteRun
run_of all me bank most input = record { all = all; me = me; bank = bank; most = most; input = input }

abbrev found : List ℕ → List ℕ → Found
found file output = record { file = file; output = output }

-- the site is opened over the file's bytes
opens : (g : Over) (c : After-run_opened g) → OpensSite c.in-Ok.ensures.opened.0 c.args.me c.args.bank c.args.resend c.args.bytes.items
    c.in-Ok.opened.responder.node.site c.in-Ok.opened.first.items c.in-Ok.opened.sends.items
opens g c =
    subst (λ f. OpensSite c.in-Ok.ensures.opened.0 c.args.me c.args.bank c.args.resend f c.in-Ok.opened.responder.node.site
    c.in-Ok.opened.first.items c.in-Ok.opened.sends.items)
    c.deref-2.ensures.value c.in-Ok.ensures.opened.1

-- a crash while the opened site runs leaves a run of it
run : (g : Over) (c : After-run_opened g) → LeavesOnly g.H.Host.moment g.H.Host.left_since c.args.host
    c.run_opened.result.host
    (IsSiteRun (run_of g.M.Records.ALL c.args.me c.args.bank c.args.resend (g.S.Source.remaining c.args.reader.now))
    (found c.args.bytes.items (g.H.Host.output c.args.host)))
run g c =
    let is = c.in-Ok.ensures.opened in
    weaker g.H.Host.moment g.H.Host.left_since _ _ _ _ c.run_opened.ensures.any_moment
    (run_behind (run_of g.M.Records.ALL c.args.me c.args.bank c.args.resend (g.S.Source.remaining c.args.reader.now))
    (found c.args.bytes.items (g.H.Host.output c.args.host)) c.in-Ok.number (g.S.Source.remaining c.open_site.new.reader) is.0
    c.open_site.new.buffers.pending c.in-Ok.opened.responder.node.site c.in-Ok.opened.first.items
    c.in-Ok.opened.sends.items (opens g c) is.2)

-- a crash before the run leaves the file and the output as they were
still : (g : Over) (c : After-is_sealed g) (P : List ℕ → List ℕ → Type 0) → P c.args.bytes.items (g.H.Host.output c.args.host)
    → LeavesOnly g.H.Host.moment g.H.Host.left_since c.args.host c.args.host P
still g c P now =
    let host = g.H.Host in
    started host.moment host.left_since c.args.host P
    (λ f d left. let only = g.met.H.Host.only_now c.args.host f d left in
    subst (λ e. P e d) (sym (c.requires.durable only.0 f only.1 ∙ sym c.requires.bytes))
    (subst (P c.args.bytes.items) (sym only.2) now))

pub returns-in-Ok-clause-ended : goal.returns-in-Ok-clause-ended
returns-in-Ok-clause-ended g c =
    let host = g.H.Host in
    let is = c.in-Ok.ensures.opened in
    let input = g.S.Source.remaining c.args.reader.now in
    let mid = c.open_site.new in
    let left = g.S.Source.remaining mid.reader in
    let still = g.S.Source.remaining c.run_opened.new.reader in
    let new = c.run_opened.result.host in
    let x = c.in-Ok.opened.responder.node.site in
    let first = c.in-Ok.opened.first.items in
    let sends = c.in-Ok.opened.sends.items in
    let output = host.output c.args.host in
    let now = recovered (host.content new) in
    let said = host.output new in
    let file = c.args.bytes.items in
    let rest = IsAtRest (host.content new) (host.may_leave new) in
    let asked = run_of g.M.Records.ALL c.args.me c.args.bank c.args.resend input in
    ran (λ e. AnswersAll g.M.Records.ALL x sends c.in-Ok.number (served_input mid.buffers.pending left) still output now said e × rest)
    (λ e. AnswersBehind asked still (found file output) now said e × rest)
    (λ why. (new ≡ c.args.host) × IsOpeningCause c.args.me c.args.bank input still file why) c.run_opened.result.ended
    (λ e all. (
      ends_behind asked (found file output) c.in-Ok.number left is.0 mid.buffers.pending x first sends
          (opens g (goal.at.returns-in-Ok-clause-ended g c).After-run_opened) is.2 still now said e all.0,
      all.1,
    ))
    c.run_opened.ensures.ended

pub returns-in-Ok-clause-any_moment : goal.returns-in-Ok-clause-any_moment
returns-in-Ok-clause-any_moment g c = run g (goal.at.returns-in-Ok-clause-any_moment g c).After-run_opened

pub returns-in-Ok-clause-steps : goal.returns-in-Ok-clause-steps
returns-in-Ok-clause-steps g c =
    let host = g.H.Host in
    let input = g.S.Source.remaining c.args.reader.now in
    let asked = run_of g.M.Records.ALL c.args.me c.args.bank c.args.resend input in
    let old = found c.args.bytes.items (host.output c.args.host) in
    weaker host.moment host.left_since c.args.host c.run_opened.result.host _ (IsRunOfSteps asked old)
    (run g (goal.at.returns-in-Ok-clause-steps g c).After-run_opened) (stepped_run asked old)

pub returns-in-Ok-clause-journal : goal.returns-in-Ok-clause-journal
returns-in-Ok-clause-journal g c = λ failed.
    let host = g.H.Host in
    let is = c.in-Ok.ensures.opened in
    let mid = c.open_site.new in
    let left = g.S.Source.remaining mid.reader in
    let x = c.in-Ok.opened.responder.node.site in
    ⊎_elim (λ (more : host.faults c.args.host < host.faults c.run_opened.result.host). inl more)
    (λ (full : IsFull (SiteAnswers g.M.Records.ALL) c.in-Ok.number (served_input mid.buffers.pending left) x (journal_of x)). inr
    (full_behind (run_of g.M.Records.ALL c.args.me c.args.bank c.args.resend (g.S.Source.remaining c.args.reader.now))
    (found c.args.bytes.items (host.output c.args.host)) c.in-Ok.number left is.0
    mid.buffers.pending x c.in-Ok.opened.first.items c.in-Ok.opened.sends.items
    (opens g (goal.at.returns-in-Ok-clause-journal g c).After-run_opened) is.2 full))
    (c.run_opened.ensures.journal failed)

pub returns-in-Err-clause-ended : goal.returns-in-Err-clause-ended
returns-in-Err-clause-ended g c =
    let host = g.H.Host in
    let was = c.args.host in
    let input = g.S.Source.remaining c.args.reader.now in
    let left = g.S.Source.remaining c.open_site.new.reader in
    let file = c.args.bytes.items in
    stopped_there (λ e. AnswersBehind (run_of g.M.Records.ALL c.args.me c.args.bank c.args.resend input) left
    (found file (host.output was)) (recovered (host.content was)) (host.output was) e × IsAtRest (host.content was) (host.may_leave was))
    (λ why. (was ≡ was) × IsOpeningCause c.args.me c.args.bank input left file why) c.in-Err.fault c.in-Err.ensures.only
    (refl, subst (λ f. IsOpeningCause c.args.me c.args.bank input left f c.in-Err.fault) c.deref-2.ensures.value c.in-Err.ensures.cause)

pub returns-in-Err-clause-any_moment : goal.returns-in-Err-clause-any_moment
returns-in-Err-clause-any_moment g c =
    still g (goal.at.returns-in-Err-clause-any_moment g c).After-is_sealed _ (inl (inl (refl, refl)))

pub returns-in-Err-clause-steps : goal.returns-in-Err-clause-steps
returns-in-Err-clause-steps g c =
    still g (goal.at.returns-in-Err-clause-steps g c).After-is_sealed _ (inl (inl (refl, refl)))

pub returns-then-is_sealed-clause-any_moment : goal.returns-then-is_sealed-clause-any_moment
returns-then-is_sealed-clause-any_moment g c =
    still g (goal.at.returns-then-is_sealed-clause-any_moment g c).After-is_sealed _ (inl (inl (refl, refl)))

pub returns-then-is_sealed-clause-steps : goal.returns-then-is_sealed-clause-steps
returns-then-is_sealed-clause-steps g c =
    still g (goal.at.returns-then-is_sealed-clause-steps g c).After-is_sealed _ (inl (inl (refl, refl)))
