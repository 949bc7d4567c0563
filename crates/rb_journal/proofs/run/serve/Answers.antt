-- A group more of a run, and how it ends.
use Rattle.std.proofs.Common.{rules, arith, ◌≡◌, ◌∙◌, ℕ, true, false, [], Err, refl, ap, sym, subst, inl, inr, ⊎_elim, append-nil, ◌*◌, ◌≤◌}
use Rattle.std.proofs.KnownBytes.{Consumes-nil, Keeps-refl}
use Rattle.rb_journal.specs.Lines.{IsIntact, recovered}
use Rattle.rb_journal.proofs.Intact.{at_rest_intact}
use Rattle.rb_journal.proofs.Public.Moments.{started}
use Rattle.rb_lines.specs.Buffers.{Counts}
use Rattle.rb_lines.specs.declared.limits.TheConstants.{READ_SIZE}
use Rattle.rb_journal.specs.Ends.{EndsAs, EndsAtRest}
use Rattle.rb_journal.specs.Run.{served_input}
use Rattle.rb_journal.specs.Steps.{Goes, IsRunFrom, waits}
use Rattle.rb_journal.specs.declared.fault.ServeFault.TheVariants.{Journal, Read}
use Rattle.rb_journal.proofs.Dropping.{read_failed}
use Rattle.rb_journal.proofs.Ending.{ends_all, ends_read, put_out, rest_is_read}
use Rattle.rb_journal.proofs.Follow.{are_turns, cause_on, goes_then, more_read, only_read, run_start, starting}
use Rattle.rb_journal.proofs.run.serve.Answers.Serving.{ended_here, here, long_moments, moments, then_intact}
use Rattle.rb_journal.proofs.run.serve.Goals as goal
mod Serving

pub batches-init : goal.batches-init
batches-init g c =
    let host = g.H.Host in
    let answers = g.R.JournaledResponder.answers in
    let was = c.args.journal.now.host in
    let had = g.I.Input.remaining c.args.reader.now in
    let ended = c.args.buffers.now.ended in
    let pending = c.args.buffers.now.pending in
    let first = starting g.R.JournaledResponder host c.args.responder.now c.args.journal.now c.args.number pending in
    let none = only_read answers ended ended first [] had had (Consumes-nil had) (λ end. (refl, end)) in
    record {
      settled = c.requires.settled;
      same = c.requires.same;
      batch = c.new-work.ensures.batch;
      buffered = c.requires.buffered;
      counted = c.requires.counted;
      end = c.requires.end;
      number = omega (arith, c.new-work.ensures.number);
      order = λ still said may. may;
      later = omega arith;
      follows = rw (c.new-work.ensures.number, c.new-work.ensures.count)
          (subst (λ l. Goes answers ended ended first (waits first l) had had) (append-nil pending) none);
      any_moment = started host.moment host.left_since was (IsRunFrom answers first had)
          (λ f d left. let now = g.met.H.Host.only_now was f d left in
          run_start (ap recovered (c.requires.settled.durable f now.1)) now.2);
      intact = started host.moment host.left_since was (λ f d. IsIntact f)
          (λ f d left. let now = g.met.H.Host.only_now was f d left in
          subst IsIntact (sym (c.requires.settled.durable f now.1 ∙ c.requires.settled.file)) (at_rest_intact (host.content was)));
    }

-- ---- after a group

pub returns-in_err-answer_group-clause-any_moment : goal.returns-in_err-answer_group-clause-any_moment
returns-in_err-answer_group-clause-any_moment g c =
    are_turns (moments g (goal.at.returns-in_err-answer_group-clause-any_moment g c).After-answer_group)

pub returns-in_err-answer_group-clause-batches : goal.returns-in_err-answer_group-clause-batches
returns-in_err-answer_group-clause-batches g c = moments g (goal.at.returns-in_err-answer_group-clause-batches g c).After-answer_group

pub returns-in_err-answer_group-clause-journal : goal.returns-in_err-answer_group-clause-journal
returns-in_err-answer_group-clause-journal g c = λ is.
    let inv = c.batches.invariant in
    let passed : c.from_residual.result ≡ Err c.in_err-answer_group.field-0.0 = search rules in
    let same : c.in_err-answer_group.field-0.0 ≡ Journal = cc (passed, is) in
    cause_on inv.follows inv.end inv.later (⊎_elim inl (λ full. inr (full _ inv.end)) (c.in_err-answer_group.ensures.journal (ap Err same)))

pub returns-then-buffers-clause-any_moment : goal.returns-then-buffers-clause-any_moment
returns-then-buffers-clause-any_moment g c = are_turns (moments g (goal.at.returns-then-buffers-clause-any_moment g c).After-answer_group)

pub returns-then-buffers-clause-batches : goal.returns-then-buffers-clause-batches
returns-then-buffers-clause-batches g c = moments g (goal.at.returns-then-buffers-clause-batches g c).After-answer_group

pub returns-in-Err-clause-any_moment : goal.returns-in-Err-clause-any_moment
returns-in-Err-clause-any_moment g c =
    are_turns (moments g (goal.at.returns-in-Err-clause-any_moment g c).After-answer_group)

pub returns-in-Err-clause-batches : goal.returns-in-Err-clause-batches
returns-in-Err-clause-batches g c = moments g (goal.at.returns-in-Err-clause-batches g c).After-answer_group

pub returns-then-buffers-clause-text : goal.returns-then-buffers-clause-text
returns-then-buffers-clause-text g c = λ ok.
    let at = goal.at.returns-then-buffers-clause-text g c in
    let follows = here g at.In_ok-answer_group in
    let ended : c.answer_group.new.buffers.ended ≡ true = c.if-buffers.true in
    let nothing = rw c.in-Nothing.is at c.in_ok-answer_group.ensures.waiting in (
      follows.steps.turns,
      put_out follows,
      ends_all _ _ follows refl (nothing.1 ended) (ended_here g at.After-answer_group ended),
    )

pub returns-in-Err-clause-text : goal.returns-in-Err-clause-text
returns-in-Err-clause-text g c = λ at_rest.
    let at = goal.at.returns-in-Err-clause-text g c in
    let follows = here g at.In_ok-answer_group in
    let same : c.fault_of_read.result ≡ Read = rest_is_read ℕ c.fault_of_read.result at_rest in
    let failed = read_failed c.answer_group.new.buffers c.read_more.new.buffers _ _ _ _ c.in-Err.no_line (c.fault_of_read.ensures.read same)
    c.in-Err.ensures.read in
    let going : c.answer_group.new.buffers.ended ≡ false = c.if-buffers.false in
    let nothing = rw c.in-Nothing.is at c.in_ok-answer_group.ensures.waiting in
    let left = g.I.Input.remaining c.read_more.new.self in
    let input = served_input c.args.buffers.now.pending (g.I.Input.remaining c.args.reader.now) in (
      follows.steps.turns,
      put_out follows,
      subst (λ r. EndsAs c.args.number follows.steps.turns input left r) (sym (ap Err same))
          (ends_read _ _ left follows going nothing.0 failed.2),
    )

pub returns-in-Err-clause-read : goal.returns-in-Err-clause-read
returns-in-Err-clause-read g c = λ is.
    let same : c.fault_of_read.result ≡ Read = cc (is) in
    (read_failed c.answer_group.new.buffers c.read_more.new.buffers _ _ _ _ c.in-Err.no_line (c.fault_of_read.ensures.read same)
    c.in-Err.ensures.read).3

-- a line still waits: the next batch goes on
pub batches-preserved-in-Line : goal.batches-preserved-in-Line
batches-preserved-in-Line g c =
    let at = goal.at.batches-preserved-in-Line g c in
    let inv = c.batches.invariant in
    let group = c.in_ok-answer_group.ensures in
    record {
      settled = group.settled;
      same = group.same;
      batch = group.batch;
      buffered = group.buffered;
      counted = subst (λ n. Counts (g.I.Input.calls c.batches.reader) n) (sym group.reads) inv.counted;
      end = ended_here g at.After-answer_group;
      number = omega (arith, group.number, inv.number, ap (λ k. READ_SIZE * k) group.reads);
      order = inv.order;
      later = omega (arith, inv.later, group.later);
      follows = here g at.In_ok-answer_group;
      any_moment = moments g at.After-answer_group;
      intact = then_intact inv.intact c.answer_group.ensures.intact;
    }

pub batches-preserved : goal.batches-preserved
batches-preserved g c =
    let at = goal.at.batches-preserved g c in
    let inv = c.batches.invariant in
    let group = c.in_ok-answer_group.ensures in
    let read = c.in-Ok.ensures in
    let going : c.answer_group.new.buffers.ended ≡ false = c.if-buffers.false in
    record {
      settled = group.settled;
      same = group.same;
      batch = group.batch;
      buffered = rw c.read_more.ensures.buffered group.buffered;
      counted = c.read_more.ensures.counted;
      end = read.end;
      number = omega (arith, read.left, group.number, inv.number, ap (λ k. READ_SIZE * k) group.reads);
      order = λ still said may. c.read_more.ensures.order still said (inv.order still said may);
      later = omega (arith, inv.later, group.later);
      follows = more_read (here g at.In_ok-answer_group) c.read_more.new.buffers.pending going read.read;
      any_moment = moments g at.After-answer_group;
      intact = then_intact inv.intact c.answer_group.ensures.intact;
    }

-- ---- after a line that is too long

pub returns-in_err-answer_long_line-in-Long-clause-any_moment : goal.returns-in_err-answer_long_line-in-Long-clause-any_moment
returns-in_err-answer_long_line-in-Long-clause-any_moment g c =
    are_turns (long_moments g (goal.at.returns-in_err-answer_long_line-in-Long-clause-any_moment g c).After-answer_long_line)

pub returns-in_err-answer_long_line-in-Long-clause-batches : goal.returns-in_err-answer_long_line-in-Long-clause-batches
returns-in_err-answer_long_line-in-Long-clause-batches g c =
    long_moments g (goal.at.returns-in_err-answer_long_line-in-Long-clause-batches g c).After-answer_long_line

pub returns-in_err-answer_long_line-in-Long-clause-journal : goal.returns-in_err-answer_long_line-in-Long-clause-journal
returns-in_err-answer_long_line-in-Long-clause-journal g c = λ is.
    let at = goal.at.returns-in_err-answer_long_line-in-Long-clause-journal g c in
    let host = g.H.Host in
    let was = c.args.journal.now.host in
    let fault = c.in_err-answer_long_line-in-Long.field-0.0 in
    let passed : c.from_residual-in_err-answer_long_line-in-Long.result ≡ Err fault = search rules in
    let same : fault ≡ Journal = cc (passed, is) in
    let later : host.faults was ≤ host.faults c.answer_group.new.journal.host =
    omega (arith, c.batches.invariant.later, c.answer_group.ensures.later) in
    cause_on (here g at.In_ok-answer_group) (ended_here g at.After-answer_group) later
    (c.in_err-answer_long_line-in-Long.ensures.journal (ap Err same))

pub returns-in_err-answer_long_line-in-Long-clause-text : goal.returns-in_err-answer_long_line-in-Long-clause-text
returns-in_err-answer_long_line-in-Long-clause-text g c = λ at_rest.
    let at = goal.at.returns-in_err-answer_long_line-in-Long-clause-text g c in
    let fault = c.in_err-answer_long_line-in-Long.field-0.0 in
    let passed : c.from_residual-in_err-answer_long_line-in-Long.result ≡ Err fault = search rules in
    let same : fault ≡ Read = rest_is_read ℕ fault (subst (λ r. EndsAtRest {T = ℕ} r) passed at_rest) in
    let stop = c.in_err-answer_long_line-in-Long.ensures.stopped (ap Err same) in
    let going = c.answer_long_line.ensures.goes_on.was_going stop.0.going in
    let follows = more_read (here g at.In_ok-answer_group) _ going (stop.0.more, refl, stop.0.read) in
    let left = g.I.Input.remaining c.answer_long_line.new.reader in
    let input = served_input c.args.buffers.now.pending (g.I.Input.remaining c.args.reader.now) in (
      follows.steps.turns,
      rw stop.2 (put_out follows),
      subst (λ r. EndsAs c.args.number follows.steps.turns input left r) (sym (passed ∙ ap Err same))
          (ends_read _ left left follows stop.0.going stop.0.one (Keeps-refl left)),
    )

pub batches-preserved-in-Long : goal.batches-preserved-in-Long
batches-preserved-in-Long g c =
    let at = goal.at.batches-preserved-in-Long g c in
    let inv = c.batches.invariant in
    let group = c.in_ok-answer_group.ensures in
    let long = c.in_ok-answer_long_line-in-Long.ensures in
    record {
      settled = long.settled tt;
      same = long.same tt;
      batch = long.batch;
      buffered = long.next.buffered;
      counted = c.answer_long_line.ensures.goes_on.counted;
      end = long.next.end;
      number = omega (arith, long.next.left, long.next.number, group.number, inv.number, ap (λ k. READ_SIZE * k) group.reads);
      order = λ still said may. c.answer_long_line.ensures.goes_on.order still said (inv.order still said may);
      later = omega (arith, inv.later, group.later, long.later);
      follows = goes_then (here g at.In_ok-answer_group) long.answered;
      any_moment = long_moments g at.After-answer_long_line;
      intact = then_intact (then_intact inv.intact c.answer_group.ensures.intact) c.answer_long_line.ensures.intact;
    }

-- ---- when it reads

-- all lines that have come whole are answered
pub read_more-requires-clause-order : goal.read_more-requires-clause-order
read_more-requires-clause-order g c =
    let at = goal.at.read_more-requires-clause-order g c in
    let follows = here g at.In_ok-answer_group in
    let still = g.I.Input.remaining c.batches.reader in
    let said = g.H.Host.output c.answer_group.new.journal.host in
    let nothing = rw c.in-Nothing.is at c.in_ok-answer_group.ensures.waiting in
    c.batches.invariant.order still said (c.requires.order still said (record {
      turns = follows.steps.turns;
      are = follows.steps.are;
      answered = ends_read _ still still follows c.if-buffers.false nothing.0 (Keeps-refl still);
      put_out = follows.steps.text_is;
    }))

-- and so they are while the front of one line more has come
pub answer_long_line-requires-clause-order : goal.answer_long_line-requires-clause-order
answer_long_line-requires-clause-order g c = λ more still read going one.
    let at = goal.at.answer_long_line-requires-clause-order g c in
    let follows = more_read (here g at.In_ok-answer_group) {e' = false} _ going (more, refl, read) in
    let said = g.H.Host.output c.answer_group.new.journal.host in
    c.batches.invariant.order still said (c.requires.order still said (record {
      turns = follows.steps.turns;
      are = follows.steps.are;
      answered = ends_read _ still still follows refl one (Keeps-refl still);
      put_out = follows.steps.text_is;
    }))
