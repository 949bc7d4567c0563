-- The runs of the uses at their examples, computed.
use Rattle.std.proofs.Common.{◌≡◌, [], ◌∷◌, refl}
use Rattle.std.specs.Prelude.{Some}
use Rattle.rb_money.specs.declared.refusal.Cause.TheVariants.{Declined}
use Rattle.rb_money.specs.declared.refusal.Refusal.TheVariants.{BatchRefused}
use Rattle.rb_shadow.specs.Operations.{bal, past, clock_of, is_eligible, same_shadow, names_listed}
use Rattle.rb_shadow.specs.Sound.{fault_of}
use Rattle.rb_scratch.specs.Batches.{made_in_batch, batch_of}
use Rattle.rb_scratch.specs.Requests.{plan_of, operation_of, allowed, made_of}
use Rattle.rb_site.specs.Events.{outcome_of}
use Rattle.rb_site.specs.declared.reply.Reply.TheVariants.{Refused}
use Rattle.rb_world.specs.Laws.{next_reply}
use Rattle.rb_uses.specs.Bank.{after, ann, balance_in, batch, cancellation, deposit_events, withdrawal}

-- after a deposit of 500 cents at site 0, which site 1 applied too, site 0's balance is 1,500 cents
pub deposited_here : balance_in (after (deposit_events 500)) 0 ann ≡ Some 1500
unfolding bal past clock_of is_eligible same_shadow names_listed fault_of plan_of operation_of allowed made_of outcome_of
deposited_here = refl

-- and so is site 1's
pub deposited_there : balance_in (after (deposit_events 500)) 1 ann ≡ Some 1500
unfolding bal past clock_of is_eligible same_shadow names_listed fault_of plan_of operation_of allowed made_of outcome_of
deposited_there = refl

-- after a withdrawal of 300 cents at site 0 its balance is 700 cents
pub withdrawn_here : balance_in (after (withdrawal 300 ∷ [])) 0 ann ≡ Some 700
unfolding bal past clock_of is_eligible same_shadow names_listed fault_of plan_of operation_of allowed made_of outcome_of
withdrawn_here = refl

-- and after the cancellation of that withdrawal it is 1,000 cents again
pub cancelled_here : balance_in (after (withdrawal 300 ∷ cancellation ∷ [])) 0 ann ≡ Some 1000
unfolding bal past clock_of is_eligible same_shadow names_listed fault_of plan_of operation_of allowed made_of outcome_of
cancelled_here = refl

-- a batch of a deposit of 50 cents and a withdrawal of 2,000 is refused, since the withdrawal is declined
pub batch_reply : next_reply (after []) (batch 50 2000) ≡ Refused (BatchRefused 1 Declined)
unfolding bal past clock_of is_eligible same_shadow names_listed fault_of plan_of operation_of allowed made_of outcome_of
    made_in_batch batch_of
batch_reply = refl

-- after that batch site 0's balance is still 1,000 cents
pub batch_here : balance_in (after (batch 50 2000 ∷ [])) 0 ann ≡ Some 1000
unfolding bal past clock_of is_eligible same_shadow names_listed fault_of plan_of operation_of allowed made_of outcome_of
    made_in_batch batch_of
batch_here = refl

-- and no message was sent
pub batch_sends : (after (batch 50 2000 ∷ [])).world.messages ≡ []
unfolding bal past clock_of is_eligible same_shadow names_listed fault_of plan_of operation_of allowed made_of outcome_of
    made_in_batch batch_of
batch_sends = refl
