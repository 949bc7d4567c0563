use Rattle.std.proofs.Common.{◌≡◌, ◌∷◌, [], ap, ◌∙◌}
use Rattle.rb_history.proofs.Public.Appended.{front_of_sum}
use Rattle.rb_site.specs.Events.{reply_to}
use Rattle.rb_site.specs.Seen.{entry}
use Rattle.rb_site.specs.declared.event.Event.TheVariants.{Apply}
use Rattle.rb_node.specs.Answers.{SeenNode}
use Rattle.rb_node.specs.Asked.{SeenAsked, asked_state, with_id, with_more}
use Rattle.rb_node.proofs.Applied.{applied_one}
use Rattle.rb_node.proofs.Failed.{kept, stayed}
use Rattle.rb_node.proofs.node.Node.apply_one.Goals as goal

pub returns-in_err-append : goal.returns-in_err-append
returns-in_err-append g c = kept c.from_residual.result _ c.from_residual.ensures.0
    (c.in_err-append.ensures, stayed c.args.entries.now.items)

pub returns-in_err-answer : goal.returns-in_err-answer
returns-in_err-answer g c = kept c.from_residual-in_err-answer.result _ c.from_residual-in_err-answer.ensures.0
    (front_of_sum c.args.text.now.items c.append.new.out.items _ c.in_ok-append.ensures, stayed c.args.entries.now.items)

pub returns : goal.returns
returns g c =
    let old = c.args.self.now.site in
    let event = Apply c.args.name in
    let reply = c.answer.new.reply in
    let id = c.none-none.result in
    let seen : c.self.inside.site ≡ old = ap (λ (v : SeenNode). v.site) c.self.view_is in
    let ok = c.in_ok-answer.ensures.ok in
    applied_one _ c.finish.result old c.answer.new.self c.finish.new.self.site id c.args.name reply c.args.comma.now
    c.args.text.now.items c.append.new.out.items c.finish.new.text.items c.args.entries.now.items c.finish.new.entries.items
    c.none-none.ensures c.requires (ok.0 ∙ ap (λ (y : SeenAsked). with_more y (with_id id (entry event reply) ∷ [])) seen)
    (ok.1 ∙ ap (λ (y : SeenAsked). reply_to y.settings (asked_state y) event) seen) c.in_ok-append.ensures c.finish.ensures
