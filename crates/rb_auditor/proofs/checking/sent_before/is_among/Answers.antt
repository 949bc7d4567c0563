-- The message is at the next place, or at none so far.
use Rattle.std.proofs.Common.{◌∙◌, refl, sym}
use Rattle.std.proofs.lemmas.Bool.{false≢true}
use Rattle.rb_auditor.proofs.Messages
use Rattle.rb_auditor.proofs.checking.sent_before.is_among.Goals as goal

pub returns-then-same : goal.returns-then-same
returns-then-same c = (
  λ t. Messages.found c.args.messages.now c.loop-known.known-index _ c.args.message.now c.loop-known-test.true
      (c.same.ensures.0 c.if-same.true),
  λ among. refl,
)

pub loop-known-preserved : goal.loop-known-preserved
loop-known-preserved c =
    Messages.not_found c.args.messages.now c.loop-known.known-index _ c.args.message.now c.loop-known-test.true c.loop-known.invariant
    (λ same. false≢true (sym c.if-same.false ∙ c.same.ensures.1 same))
