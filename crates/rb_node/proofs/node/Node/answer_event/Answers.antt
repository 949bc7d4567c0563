use Rattle.std.proofs.Common.{codes, ap, sym, ◌∙◌}
use Rattle.rb_history.proofs.Public.Appended.{both, front_of_sum, front_stays}
use Rattle.rb_node.specs.Answers.{SeenNode}
use Rattle.rb_node.specs.Asked.{SeenAsked}
use Rattle.rb_node.proofs.AnswerTexts.{head_text, rest_of_front}
use Rattle.rb_node.proofs.Applied.{answered}
use Rattle.rb_node.proofs.Failed.{kept, stayed}
use Rattle.rb_node.proofs.node.Node.answer_event.Goals as goal

pub returns-in_err-append_answer_head : goal.returns-in_err-append_answer_head
returns-in_err-append_answer_head g c = kept c.from_residual.result _ c.from_residual.ensures.0
    (c.in_err-append_answer_head.ensures.added, stayed c.args.entries.now.items)

pub returns-in_err-step : goal.returns-in_err-step
returns-in_err-step g c =
    let failed = c.in_err-step.ensures.stepped in
    kept c.from_residual-in_err-step.result _ c.from_residual-in_err-step.ensures.0 (
      front_stays c.args.text.now.items c.append_answer_head.new.out.items c.step.new.text.items _
          c.in_ok-append_answer_head.ensures.added failed.0,
      failed.1,
    )

pub returns-in_err-append_rest : goal.returns-in_err-append_rest
returns-in_err-append_rest g c =
    let step = c.in_ok-step.ensures.stepped in
    let text = c.args.text.now.items in
    kept c.from_residual-in_err-append_rest.result _ c.from_residual-in_err-append_rest.ensures.0 (
      front_stays text c.step.new.text.items c.append_rest.new.out.items _
          (both text c.append_answer_head.new.out.items c.step.new.text.items _ _ c.in_ok-append_answer_head.ensures.added step.2)
          c.in_err-append_rest.ensures,
      front_of_sum c.args.entries.now.items c.step.new.entries.items _ step.1.entries_are,
    )

pub returns : goal.returns
returns g c =
    let old = c.args.self.now.site in
    let mid = c.step.new.self in
    let step = c.in_ok-step.ensures.stepped in
    let text = c.args.text.now.items in
    let s = c.self.inside.config in
    let head = c.append_answer_head.new.out.items in
    let begun = both text head c.append_rest.new.out.items (head_text (codes "{") c.args.id.now)
    (rest_of_front s c.bank.result.now step.0 c.as_slice.result.now) c.in_ok-append_answer_head.ensures.added
    (both head c.step.new.text.items c.append_rest.new.out.items _ _ step.2 c.in_ok-append_rest.ensures) in
    answered c.apply_ready.result g.M.Records.ALL s c.bank.result.now old mid.site c.apply_ready.new.self.site c.args.id.now
    c.args.event step.0 c.as_slice.result.now text c.append_rest.new.out.items c.apply_ready.new.text.items
    c.args.entries.now.items c.step.new.entries.items c.apply_ready.new.entries.items
    c.in_ok-append_answer_head.ensures.id c.requires
    (sym c.self.invariant ∙ ap (λ (v : SeenNode). v.site.settings) c.self.view_is
    ∙ ap (λ (y : SeenAsked). y.settings) step.1.recorded_are)
    (c.bank.ensures ∙ ap (λ (v : SeenNode). v.site.bank) c.self.view_is ∙ ap (λ (y : SeenAsked). y.bank) step.1.recorded_are)
    step.1 (c.as_slice.ensures.value ∙ ap (λ (v : SeenNode). v.sent) c.self.view_is ∙ step.3)
    begun c.apply_ready.ensures
