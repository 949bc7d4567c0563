-- The reports of the branch, once all seats came back to it.
use Rattle.std.proofs.Common.{ℕ, All, sym, ap, subst, ◌∙◌, arith}
use Rattle.std.proofs.lemmas.Result.{IfOk-from_err}
use Rattle.rb_branch.specs.Gathered.{IsClosedReport}
use Rattle.rb_money.specs.declared.config.Config.{Config}
use Rattle.rb_run_threads.specs.Tellers.{IsCrew}
use Rattle.rb_run_threads.proofs.running.run_with.Goals as goal

pub open-requires-clause-config : goal.open-requires-clause-config
open-requires-clause-config g c = c.requires.config

pub open-requires-clause-entries : goal.open-requires-clause-entries
open-requires-clause-entries g c = c.requires.entries

pub open-requires-clause-receipts : goal.open-requires-clause-receipts
open-requires-clause-receipts g c = c.requires.receipts

pub returns-in_err-branch-clause-all : goal.returns-in_err-branch-clause-all
returns-in_err-branch-clause-all g c = IfOk-from_err c.from_residual.result _ c.from_residual.ensures.0

pub returns-in_err-branch-clause-closed : goal.returns-in_err-branch-clause-closed
returns-in_err-branch-clause-closed g c = IfOk-from_err c.from_residual.result _ c.from_residual.ensures.0

pub returns-in_err-branch-clause-gathered : goal.returns-in_err-branch-clause-gathered
returns-in_err-branch-clause-gathered g c = IfOk-from_err c.from_residual.result _ c.from_residual.ensures.0

pub run_branch-requires-after_bounds : goal.run_branch-requires-after_bounds
run_branch-requires-after_bounds g c = λ _ _. omega (arith, c.sites-sites.ensures.some)

pub returns-in-Ok-gather-clause-all : goal.returns-in-Ok-gather-clause-all
returns-in-Ok-gather-clause-all g c = c.in-Ok-gather.ensures.all ∙ ap (λ (s : Config). s.sites) (sym c.requires.config)

pub returns-in-Ok-gather-clause-closed : goal.returns-in-Ok-gather-clause-closed
returns-in-Ok-gather-clause-closed g c =
    subst (λ (s : Config). All (IsClosedReport s) c.in-Ok-gather.reports.items) (sym c.requires.config) c.in-Ok-gather.ensures.closed

pub returns-in-Ok-gather-clause-gathered : goal.returns-in-Ok-gather-clause-gathered
returns-in-Ok-gather-clause-gathered g c = (
  c.in-Ok.seats.items,
  subst (λ (n : ℕ). IsCrew c.args.seed c.args.tellers n c.in-Ok.seats.items) c.sites-sites.ensures.same c.in-Ok.ensures,
  c.in-Ok-gather.ensures.gathered,
)

pub returns-in-Err-OutOfMemory-clause-all : goal.returns-in-Err-OutOfMemory-clause-all
returns-in-Err-OutOfMemory-clause-all g c = tt

pub returns-in-Err-OutOfMemory-clause-closed : goal.returns-in-Err-OutOfMemory-clause-closed
returns-in-Err-OutOfMemory-clause-closed g c = tt

pub returns-in-Err-OutOfMemory-clause-gathered : goal.returns-in-Err-OutOfMemory-clause-gathered
returns-in-Err-OutOfMemory-clause-gathered g c = tt

pub returns-in-Err-clause-all : goal.returns-in-Err-clause-all
returns-in-Err-clause-all g c = tt

pub returns-in-Err-clause-closed : goal.returns-in-Err-clause-closed
returns-in-Err-clause-closed g c = tt

pub returns-in-Err-clause-gathered : goal.returns-in-Err-clause-gathered
returns-in-Err-clause-gathered g c = tt

pub returns-in-Err-gather : goal.returns-in-Err-gather
returns-in-Err-gather g c = record { all = tt; closed = tt; gathered = tt }
