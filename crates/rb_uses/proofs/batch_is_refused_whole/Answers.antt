-- The reply, the balance and the messages of the model's world.
use Rattle.std.proofs.Common.{◌≡◌, ◌∙◌, [], ◌∷◌, ap, ap₂, length, refl, sym, rules}
use Rattle.std.proofs.lemmas.Option.{same_Some}
use Rattle.rb_scratch.specs.declared.request.Request.TheVariants.{Deposit, Withdraw}
use Rattle.rb_site.specs.declared.event.Event.TheVariants.{Batch}
use Rattle.rb_site.specs.declared.world_event.WorldEvent.TheVariants.{At}
use Rattle.rb_world.specs.Laws.{SeenWorld, next_reply, next_world}
use Rattle.rb_uses.specs.Bank.{after, ann, balance_in, batch}
use Rattle.rb_uses.proofs.Runs.{batch_here, batch_reply, batch_sends}
use Rattle.rb_uses.proofs.batch_is_refused_whole.Goals as goal

pub returns-in-Ok-clause-reply : goal.returns-in-Ok-clause-reply
returns-in-Ok-clause-reply c =
    let requests : c.new.result ≡ Deposit ann c.args.deposited ∷ Withdraw ann c.args.withdrawn ∷ [] = search rules in
    c.in-Ok.ensures.ok.0 ∙ ap₂ next_reply c.in_ok-world.ensures (ap (λ rs. At 0 (Batch rs)) requests)

pub returns-in-Ok-clause-balance : goal.returns-in-Ok-clause-balance
returns-in-Ok-clause-balance c =
    let requests : c.new.result ≡ Deposit ann c.args.deposited ∷ Withdraw ann c.args.withdrawn ∷ [] = search rules in
    let then : c.step.new.self ≡ next_world (after []) (batch c.args.deposited c.args.withdrawn) =
    c.in-Ok.ensures.ok.1 ∙ ap₂ next_world c.in_ok-world.ensures (ap (λ rs. At 0 (Batch rs)) requests) in
    ap (λ (w : SeenWorld). balance_in w 0 ann) (sym then) ∙ c.balance.ensures

pub returns-in-Ok-clause-sent : goal.returns-in-Ok-clause-sent
returns-in-Ok-clause-sent c =
    let requests : c.new.result ≡ Deposit ann c.args.deposited ∷ Withdraw ann c.args.withdrawn ∷ [] = search rules in
    let then : c.step.new.self ≡ next_world (after []) (batch c.args.deposited c.args.withdrawn) =
    c.in-Ok.ensures.ok.1 ∙ ap₂ next_world c.in_ok-world.ensures (ap (λ rs. At 0 (Batch rs)) requests) in
    ap length c.messages.ensures ∙ ap (λ (w : SeenWorld). length w.world.messages) then

pub returns-in-Ok-clause-example : goal.returns-in-Ok-clause-example
returns-in-Ok-clause-example c = λ deposited withdrawn.
    let requests : c.new.result ≡ Deposit ann c.args.deposited ∷ Withdraw ann c.args.withdrawn ∷ [] = search rules in
    let event = ap (λ rs. At 0 (Batch rs)) (requests ∙ ap₂ (λ d w. Deposit ann d ∷ Withdraw ann w ∷ []) deposited withdrawn) in
    let then : c.step.new.self ≡ next_world (after []) (batch 50 2000) = c.in-Ok.ensures.ok.1 ∙ ap₂ next_world c.in_ok-world.ensures event
    in
    let reply = c.in-Ok.ensures.ok.0 ∙ ap₂ next_reply c.in_ok-world.ensures event ∙ batch_reply in
    let balance = same_Some _ _ (sym c.balance.ensures ∙ ap (λ (w : SeenWorld). balance_in w 0 ann) then ∙ batch_here) in
    let sent = ap length c.messages.ensures ∙ ap (λ (w : SeenWorld). length w.world.messages) then ∙ ap length batch_sends in
    rw (reply, balance, sent) refl
