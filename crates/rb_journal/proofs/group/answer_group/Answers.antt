-- A group of lines is answered and committed.
use Rattle.std.proofs.Common.{rules, ◌≡◌, ◌∙◌, ◌++◌, ⊎_elim, inl, inr, Option, Err, refl, ap, subst, ℕ, List, true}
use Rattle.std.specs.Io.KnownBytes.{IsAtEnd}
use Rattle.rb_journal.specs.Host.{LeavesOnly}
use Rattle.rb_journal.specs.Lines.{recovered}
use Rattle.rb_journal.specs.declared.host.HostError.TheVariants.{DiskFailed, Full}
use Rattle.rb_journal.specs.Faults.{fault_of_host}
use Rattle.rb_journal.specs.Steps.{AdvancesByBatch, IsRunFrom, point_at, point_in}
use Rattle.rb_journal.specs.Turns.{texts}
use Rattle.rb_journal.specs.declared.fault.ServeFault.TheVariants.{Journal}
use Rattle.rb_journal.proofs.Public.Moments.{weaker}
use Rattle.rb_journal.proofs.Runs.{durable_is_run, is_full, journal_cause}
use Rattle.rb_journal.proofs.group.answer_group.Given.{Over}
use Rattle.rb_journal.proofs.group.answer_group.Goals.{After-answer_waiting-answered, After-commit_and_put_out}
use Rattle.rb_journal.proofs.group.answer_group.Goals as goal

-- the lines are answered, and what they add waits in the batch
steps : (g : Over) (c : After-answer_waiting-answered g) → AdvancesByBatch g.R.JournaledResponder.answers c.args.buffers.now.ended
    (point_in (g.R.JournaledResponder.state c.args.responder.now) (recovered (g.H.Host.content c.args.journal.now.host))
    c.args.buffers.now c.args.work.now)
    (point_in c.answer_waiting-answered.ensures.answered.0 (recovered (g.H.Host.content c.args.journal.now.host)
    ++ recovered c.answer_waiting-answered.new.work.batch.bytes.items) c.answer_waiting-answered.new.buffers
    c.answer_waiting-answered.new.work)
steps g c =
    let now = c.answer_waiting-answered.new in
    let begin = g.R.JournaledResponder.state c.args.responder.now in
    let last = c.answer_waiting-answered.ensures.answered.0 in
    subst (λ ls. AdvancesByBatch g.R.JournaledResponder.answers c.args.buffers.now.ended
    (point_in begin ls c.args.buffers.now c.args.work.now)
    (point_in last (ls ++ recovered now.work.batch.bytes.items) now.buffers now.work))
    c.requires.same c.answer_waiting-answered.ensures.answered.1

-- a crash leaves a run over the lines
run : (g : Over) (c : After-commit_and_put_out g) (rest : Option (List ℕ)) → (c.args.buffers.now.ended ≡ true → IsAtEnd rest)
    → LeavesOnly g.H.Host.moment g.H.Host.left_since c.args.journal.now.host c.commit_and_put_out.new.self.host
    (IsRunFrom g.R.JournaledResponder.answers (point_at g.R.JournaledResponder g.H.Host c.args.responder.now c.args.journal.now
    c.args.work.now c.args.buffers.now) rest)
run g c rest end =
    let advances = steps g (goal.at.After-commit_and_put_out g c).After-answer_waiting-answered in
    weaker g.H.Host.moment g.H.Host.left_since _ _ _ _ c.commit_and_put_out.ensures.any_moment
    (λ f d kept. durable_is_run rest c.answer_waiting-answered.new.work.batch.bytes.items end refl advances
    (c.deref.ensures.value ∙ advances.0.text_is ∙ ap (λ l. l ++ texts advances.0.turns) c.requires.buffered) kept)

pub returns-in_err-commit_and_put_out-clause-any_moment : goal.returns-in_err-commit_and_put_out-clause-any_moment
returns-in_err-commit_and_put_out-clause-any_moment g c =
    run g (goal.at.returns-in_err-commit_and_put_out-clause-any_moment g c).After-commit_and_put_out

pub returns-in_err-answered-clause-any_moment : goal.returns-in_err-answered-clause-any_moment
returns-in_err-answered-clause-any_moment g c =
    run g (goal.at.returns-in_err-answered-clause-any_moment g c).After-commit_and_put_out

pub returns-clause-any_moment : goal.returns-clause-any_moment
returns-clause-any_moment g c = run g (goal.at.returns-clause-any_moment g c).After-commit_and_put_out

pub returns-in_err-commit_and_put_out-clause-journal : goal.returns-in_err-commit_and_put_out-clause-journal
returns-in_err-commit_and_put_out-clause-journal g c = λ is.
    let why = c.in_err-commit_and_put_out.ensures.cause in
    let error = c.in_err-commit_and_put_out.field-0.0 in
    let passed : c.from_residual.result ≡ Err (fault_of_host error) = search rules in
    let journal : fault_of_host error ≡ Journal = cc (passed, is) in
    let advances = steps g (goal.at.returns-in_err-commit_and_put_out-clause-journal g c).After-answer_waiting-answered in
    let batch = c.answer_waiting-answered.new.work.batch in
    ⊎_elim (λ (disk : error ≡ DiskFailed). inl (why.failed (ap Err disk)))
    (λ (full : error ≡ Full). inr (λ rest end. is_full rest batch.bytes.items end refl advances.0 batch.whole c.requires.settled.end
    (why.full (ap Err full))))
    (journal_cause error journal)
