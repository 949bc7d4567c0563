use Rattle.std.proofs.Common.{◌∙◌}
use Rattle.rb_shadow.proofs.Same.{same_means, tests_fields}
use Rattle.rb_shadow.proofs.shadow.Shadow.same.Goals as goal

pub returns-clause-same : goal.returns-clause-same
returns-clause-same c = c.eq.ensures ∙ tests_fields _ _

pub returns-clause-equal : goal.returns-clause-equal
returns-clause-equal c = same_means _ _ _ (c.eq.ensures ∙ tests_fields _ _)
