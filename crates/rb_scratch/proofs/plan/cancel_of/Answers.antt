use Rattle.rb_scratch.specs.Requests.{plan_of}
use Rattle.std.proofs.Common.{ap, sym, ◌∙◌, Some}
use Rattle.rb_shadow.specs.declared.kind.Kind.TheVariants.{Cancel}
use Rattle.rb_shadow.specs.Operations.{colour_of, may_be_cancelled}
use Rattle.rb_scratch.proofs.Found
use Rattle.rb_scratch.proofs.Found.{IsFound}
use Rattle.rb_scratch.proofs.plan.cancel_of.Goals as goal

pub returns-in_default-clause-reason : goal.returns-in_default-clause-reason
unfolding plan_of
returns-in_default-clause-reason c = Found.unknown c.args.ledger.now.entries c.args.target (sym c.find.ensures ∙ c.in_default.is)

pub unwrap-found-requires : goal.unwrap-found-requires
unwrap-found-requires c = Found.readable c.args.ledger.now.entries c.args.target c.in-Some.position _ (sym c.find.ensures
    ∙ c.in-Some.is) c.operation.ensures

pub returns-then-not-may_be_cancelled-clause-reason : goal.returns-then-not-may_be_cancelled-clause-reason
unfolding plan_of
returns-then-not-may_be_cancelled-clause-reason c =
    let is : IsFound c.args.ledger.now.entries c.args.target c.in-Some.position c.unwrap-found.result =
    Found.is_found _ _ _ _ c.unwrap-found.result (sym c.find.ensures ∙ c.in-Some.is) c.operation.ensures c.unwrap-found.ensures
    in
    Found.uncancellable c.args.ledger.now.entries c.args.target _ is.found
    (ap may_be_cancelled (sym c.kind-kind.ensures) ∙ sym c.may_be_cancelled.ensures
    ∙ c.if-not-may_be_cancelled.true)

pub returns-in-Some-first_cancel-clause-reason : goal.returns-in-Some-first_cancel-clause-reason
unfolding plan_of
returns-in-Some-first_cancel-clause-reason c =
    let is : IsFound c.args.ledger.now.entries c.args.target c.in-Some.position c.unwrap-found.result =
    Found.is_found _ _ _ _ c.unwrap-found.result (sym c.find.ensures ∙ c.in-Some.is) c.operation.ensures c.unwrap-found.ensures
    in
    Found.cancelled_at c.args.ledger.now.entries c.args.target _ _ _ _ is
    (ap may_be_cancelled (sym c.kind-kind.ensures) ∙ sym c.may_be_cancelled.ensures
    ∙ c.if-not-may_be_cancelled.false) c.first_cancel.ensures c.in-Some-first_cancel.is

pub returns-clause-planned : goal.returns-clause-planned
unfolding plan_of
returns-clause-planned c =
    let is : IsFound c.args.ledger.now.entries c.args.target c.in-Some.position c.unwrap-found.result =
    Found.is_found _ _ _ _ c.unwrap-found.result (sym c.find.ensures ∙ c.in-Some.is) c.operation.ensures c.unwrap-found.ensures
    in
    Found.planned_to_cancel c.args.ledger.now.entries c.args.target _ _ _ _ _ is (ap may_be_cancelled (sym c.kind-kind.ensures)
    ∙ sym c.may_be_cancelled.ensures ∙ c.if-not-may_be_cancelled.false) c.first_cancel.ensures c.in_default-first_cancel.is
    c.account.ensures c.amount.ensures

pub returns-clause-colour : goal.returns-clause-colour
returns-clause-colour c =
    let is : IsFound c.args.ledger.now.entries c.args.target c.in-Some.position c.unwrap-found.result =
    Found.is_found _ _ _ _ c.unwrap-found.result (sym c.find.ensures ∙ c.in-Some.is) c.operation.ensures c.unwrap-found.ensures
    in
    c.colour.ensures ∙ ap (colour_of (Cancel c.args.target)) (ap Some c.kind-kind.ensures ∙ sym (Found.kind_is _ _ _ _ is))
