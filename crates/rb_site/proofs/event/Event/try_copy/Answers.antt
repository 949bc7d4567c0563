-- The copy is of the same variant, with what it holds.
use Rattle.std.proofs.Common.{◌∙◌, ap, sym}
use Rattle.std.proofs.lemmas.Result.{IfOk-from_err}
use Rattle.rb_site.specs.declared.event.Event.TheVariants.{Batch}
use Rattle.rb_site.proofs.event.Event.try_copy.Goals as goal

pub returns-in_err-requests-in-Batch : goal.returns-in_err-requests-in-Batch
returns-in_err-requests-in-Batch c = IfOk-from_err c.from_residual.result _ c.from_residual.ensures.0

pub returns-in_ok-requests-in-Batch : goal.returns-in_ok-requests-in-Batch
returns-in_ok-requests-in-Batch c = ap Batch c.in_ok-requests-in-Batch.ensures ∙ sym c.in-Batch.is

pub returns-in-Submit : goal.returns-in-Submit
returns-in-Submit c = sym c.in-Submit.is

pub returns-in-Receive : goal.returns-in-Receive
returns-in-Receive c = sym c.in-Receive.is

pub returns-in-Apply : goal.returns-in-Apply
returns-in-Apply c = sym c.in-Apply.is

pub returns-in-Pass : goal.returns-in-Pass
returns-in-Pass c = sym c.in-Pass.is

pub returns-in-Balance : goal.returns-in-Balance
returns-in-Balance c = sym c.in-Balance.is

pub returns-in-AsOf : goal.returns-in-AsOf
returns-in-AsOf c = sym c.in-AsOf.is

pub returns-in-Statement : goal.returns-in-Statement
returns-in-Statement c = sym c.in-Statement.is
