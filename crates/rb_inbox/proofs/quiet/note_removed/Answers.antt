use Rattle.std.proofs.Common.{rules, ◌∙◌, ap, subst, Some}
use Rattle.rb_inbox.specs.Quiet.{IsQuiet}
use Rattle.rb_inbox.proofs.Public.{kept_among}
use Rattle.rb_inbox.proofs.Waiting.{not_removed}
use Rattle.rb_inbox.proofs.quiet.note_removed.Goals as goal

pub returns-then-eq : goal.returns-then-eq
returns-then-eq c = λ us q u a r. absurd (not_removed c.args.name.now us u c.in-Some.known.fresh a
    (c.in-Some-fresh.is ∙ ap Some (search rules)) (subst (λ o. IsQuiet o us) c.in-Some.is q u (kept_among _ us u a) r))

pub returns-else-eq : goal.returns-else-eq
returns-else-eq c = λ us q u a r. subst (λ o. IsQuiet o us) c.in-Some.is q u (kept_among _ us u a) r

pub returns-in_default-fresh : goal.returns-in_default-fresh
returns-in_default-fresh c = λ us q u a r. subst (λ o. IsQuiet o us) c.in-Some.is q u (kept_among _ us u a) r
