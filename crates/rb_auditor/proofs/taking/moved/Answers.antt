-- The messages that a step says are sent.
use Rattle.std.proofs.Common.{◌∙◌, [], Some, None, refl, subst, sym}
use Rattle.std.proofs.lemmas.Bool.{false≢true}
use Rattle.rb_auditor.specs.Kept.{HasPlaces, IsTakenAs}
use Rattle.rb_auditor.proofs.Lists
use Rattle.rb_auditor.proofs.taking.moved.Goals as goal

pub returns-then-has-clause-taken : goal.returns-then-has-clause-taken
returns-then-has-clause-taken c =
    let m = Lists.item_at c.args.sent.now.all c.in-Receives.at (subst (HasPlaces c.args.sent.now.all) c.in-Receives.is c.requires) in
    subst (λ step. IsTakenAs c.args.sent.now.items c.args.sent.now.all step (Some [])) (sym c.in-Receives.is)
    (m.0, m.1, (c.has.ensures m.0 m.1).0 c.if-has.true, refl)

pub returns-else-has-clause-taken : goal.returns-else-has-clause-taken
returns-else-has-clause-taken c =
    let m = Lists.item_at c.args.sent.now.all c.in-Receives.at (subst (HasPlaces c.args.sent.now.all) c.in-Receives.is c.requires) in
    subst (λ step. IsTakenAs c.args.sent.now.items c.args.sent.now.all step None) (sym c.in-Receives.is)
    (m.0, m.1, λ among. false≢true (sym c.if-has.false ∙ (c.has.ensures m.0 m.1).1 among))
