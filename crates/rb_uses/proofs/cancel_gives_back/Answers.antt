-- The balances of the model's world after the events.
use Rattle.std.proofs.Common.{◌≡◌, ◌∙◌, [], ◌∷◌, ap, ap₂, sym, rules}
use Rattle.std.proofs.lemmas.Option.{same_Some}
use Rattle.rb_world.specs.Laws.{SeenWorld, next_world}
use Rattle.rb_uses.specs.Bank.{after, ann, balance_in, cancellation, withdrawal}
use Rattle.rb_uses.proofs.Runs.{cancelled_here, withdrawn_here}
use Rattle.rb_uses.proofs.cancel_gives_back.Goals as goal

pub returns-in-Ok-clause-taken : goal.returns-in-Ok-clause-taken
returns-in-Ok-clause-taken c =
    let events : c.as_slice.result.now ≡ withdrawal c.args.amount ∷ [] = search rules in
    let world : c.in_ok-world.world ≡ after (withdrawal c.args.amount ∷ []) = c.in_ok-world.ensures ∙ ap after events in
    ap (λ (w : SeenWorld). balance_in w 0 ann) (sym world) ∙ c.balance-taken.ensures

pub returns-in-Ok-clause-given_back : goal.returns-in-Ok-clause-given_back
returns-in-Ok-clause-given_back c =
    let events : c.as_slice.result.now ≡ withdrawal c.args.amount ∷ [] = search rules in
    let world : c.in_ok-world.world ≡ after (withdrawal c.args.amount ∷ []) = c.in_ok-world.ensures ∙ ap after events in
    let then : c.step.new.self ≡ next_world (after (withdrawal c.args.amount ∷ [])) cancellation =
    c.in-Ok.ensures.ok.1 ∙ ap (λ (w : SeenWorld). next_world w cancellation) world in
    ap (λ (w : SeenWorld). balance_in w 0 ann) (sym then) ∙ c.balance-given_back.ensures

pub returns-in-Ok-clause-example : goal.returns-in-Ok-clause-example
returns-in-Ok-clause-example c = λ is.
    let events : c.as_slice.result.now ≡ withdrawal c.args.amount ∷ [] = search rules in
    let world : c.in_ok-world.world ≡ after (withdrawal 300 ∷ []) = c.in_ok-world.ensures
    ∙ ap after (events ∙ ap (λ n. withdrawal n ∷ []) is) in
    let then : c.step.new.self ≡ next_world (after (withdrawal 300 ∷ [])) cancellation =
    c.in-Ok.ensures.ok.1 ∙ ap (λ (w : SeenWorld). next_world w cancellation) world in
    ap₂ (λ a b. (a, b))
    (same_Some _ _ (sym c.balance-taken.ensures ∙ ap (λ (w : SeenWorld). balance_in w 0 ann) world ∙ withdrawn_here))
    (same_Some _ _ (sym c.balance-given_back.ensures ∙ ap (λ (w : SeenWorld). balance_in w 0 ann) then ∙ cancelled_here))
