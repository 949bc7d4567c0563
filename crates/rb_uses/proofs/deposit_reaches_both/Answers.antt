-- The balances of the model's world after the events.
use Rattle.std.proofs.Common.{◌≡◌, ◌∙◌, ap, ap₂, sym, rules}
use Rattle.std.proofs.lemmas.Option.{same_Some}
use Rattle.rb_world.specs.Laws.{SeenWorld}
use Rattle.rb_uses.specs.Bank.{after, ann, balance_in, deposit_events}
use Rattle.rb_uses.proofs.Runs.{deposited_here, deposited_there}
use Rattle.rb_uses.proofs.deposit_reaches_both.Goals as goal

pub returns-clause-here : goal.returns-clause-here
returns-clause-here c =
    let events : c.as_slice.result.now ≡ deposit_events c.args.amount = search rules in
    let world : c.in_ok-world.world ≡ after (deposit_events c.args.amount) = c.in_ok-world.ensures ∙ ap after events in
    ap (λ (w : SeenWorld). balance_in w 0 ann) (sym world) ∙ c.balance.ensures

pub returns-clause-there : goal.returns-clause-there
returns-clause-there c =
    let events : c.as_slice.result.now ≡ deposit_events c.args.amount = search rules in
    let world : c.in_ok-world.world ≡ after (deposit_events c.args.amount) = c.in_ok-world.ensures ∙ ap after events in
    ap (λ (w : SeenWorld). balance_in w 1 ann) (sym world) ∙ c.balance-2.ensures

pub returns-clause-example : goal.returns-clause-example
returns-clause-example c = λ is.
    let events : c.as_slice.result.now ≡ deposit_events c.args.amount = search rules in
    let world : c.in_ok-world.world ≡ after (deposit_events 500) = c.in_ok-world.ensures ∙ ap after (events ∙ ap deposit_events is) in
    ap₂ (λ a b. (a, b))
    (same_Some _ _ (sym c.balance.ensures ∙ ap (λ (w : SeenWorld). balance_in w 0 ann) world ∙ deposited_here))
    (same_Some _ _ (sym c.balance-2.ensures ∙ ap (λ (w : SeenWorld). balance_in w 1 ann) world ∙ deposited_there))
