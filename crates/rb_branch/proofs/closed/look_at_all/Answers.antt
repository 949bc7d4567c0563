use Rattle.std.proofs.Common.{rules}
use Rattle.rb_scratch.proofs.Public.Errors.{if_passed_on}
use Rattle.rb_branch.proofs.Reports.{fine_more, fine_all, first_at, explained}
use Rattle.rb_branch.proofs.closed.look_at_all.Goals as goal

pub returns-in_err-look_at-clause-err : goal.returns-in_err-look_at-clause-err
returns-in_err-look_at-clause-err c = if_passed_on c.from_residual.result _ c.in_err-look_at.field-0.0 c.from_residual.ensures.1
    (explained c.args.reports.now c.args.seats.now c.loop-k.k c.index-reports-k.result c.args.missing c.in_err-look_at.field-0.0
    (search rules) c.index-reports-k.is c.requires.missing c.in_err-look_at.ensures.missing c.in_err-look_at.ensures.mixed)

pub loop-k-preserved : goal.loop-k-preserved
loop-k-preserved c = fine_more c.args.reports.now c.args.seats.now c.loop-k.k c.index-reports-k.result (search rules) c.index-reports-k.is
    c.in_ok-look_at.ensures.ok c.loop-k.invariant

pub returns-clause-ok : goal.returns-clause-ok
returns-clause-ok c = fine_all c.args.reports.now c.args.seats.now c.loop-k.k (search rules) c.loop-k.invariant

pub returns-in_err-look_at-clause-first : goal.returns-in_err-look_at-clause-first
returns-in_err-look_at-clause-first c = if_passed_on c.from_residual.result _ c.in_err-look_at.field-0.0 c.from_residual.ensures.1
    (first_at c.args.reports.now c.args.seats.now c.loop-k.k c.in_err-look_at.field-0.0
    (λ s is. (c.in_err-look_at.ensures.missing s is).0) (λ s is. (c.in_err-look_at.ensures.mixed s is).0) c.loop-k.invariant)
