-- An entry that is left and may come is taken.
use Rattle.std.proofs.Common.{◌∙◌, length, sym}
use Rattle.std.proofs.lemmas.Bool.{false≢true}
use Rattle.rb_auditor.proofs.Resting
use Rattle.rb_auditor.proofs.Walking
use Rattle.rb_auditor.proofs.checking.following.take_next.Goals as goal

pub returns-in_default : goal.returns-in_default
returns-in_default c =
    Resting.held_past c.args.sent.now.messages.items (length c.args.site.now.entries) c.args.history.now
    (sym c.in_default.ensures.next)

pub returns-then-not-may_come : goal.returns-then-not-may_come
returns-then-not-may_come c =
    Resting.held_here c.args.sent.now.messages.items c.args.history.now _ c.in-Some.entry.now
    (sym c.in-Some.ensures.next)
    (λ come. false≢true (sym c.if-not-may_come.true ∙ c.may_come.ensures.1 come))

pub returns : goal.returns
returns c = record {
  entry = c.in-Some.entry.now;
  next = sym c.in-Some.ensures.next;
  source = c.may_come.ensures.0 c.if-not-may_come.false;
  is = c.in_ok-answer.ensures.ok.0 ∙ Walking.next_along c.args.site.now c.args.history.now c.in-Some.entry.now c.requires.along
      c.requires.replays (sym c.in-Some.ensures.next);
  sends = c.in_ok-note_from.ensures ∙ c.in_ok-answer.ensures.ok.2;
}
