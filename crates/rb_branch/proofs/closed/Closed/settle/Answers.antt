use Rattle.rb_branch.proofs.Reports.{gathered_along}
use Rattle.rb_branch.proofs.closed.Closed.settle.Goals as goal

pub returns-clause-ok : goal.returns-clause-ok
returns-clause-ok g c = (
  c.in-Ok.ensures.reports,
  gathered_along _ _ _ _ _ c.in_ok-look_at_all.ensures.ok c.as_slice.ensures.value c.as_slice-2.ensures.value c.in-Ok.ensures.given,
)
