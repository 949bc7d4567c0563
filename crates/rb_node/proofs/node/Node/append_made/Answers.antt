use Rattle.std.proofs.Common.{◌≡◌, ◌++◌, codes, ap, sym, ◌∙◌}
use Rattle.rb_site.specs.Seen.{SeenSite, state_of}
use Rattle.rb_site.specs.declared.message.Message.{Message}
use Rattle.std.specs.Prelude.{List}
use Rattle.rb_shadow.specs.declared.shadow.Shadow.{Shadow}
use Rattle.rb_history.proofs.Public.Appended.{both, failed, then}
use Rattle.rb_node.specs.Answers.{SeenNode}
use Rattle.rb_node.specs.Asked.{SeenAsked, asked_state, without_ids}
use Rattle.rb_node.specs.Index.{messages_of}
use Rattle.rb_node.specs.Kept.{reply_made, known_again}
use Rattle.rb_node.specs.declared.sent_entry.Sending.TheVariants.{Operations}
use Rattle.rb_node.proofs.AnswerTexts.{again_line, head_text, rest_of_front}
use Rattle.rb_node.proofs.node.Node.append_made.Goals as goal

pub returns-in_err-append_value : goal.returns-in_err-append_value
returns-in_err-append_value g c = failed c.from_residual-in_err-append_value.result c.args.out.now.items
    c.append_answer_head.new.out.items c.append_value.new.out.items _ _ c.from_residual-in_err-append_value.ensures.0
    c.in_ok-append_answer_head.ensures.added c.in_err-append_value.ensures

pub returns-in_err-append_rest : goal.returns-in_err-append_rest
returns-in_err-append_rest g c = failed c.from_residual-in_err-append_rest.result c.args.out.now.items
    c.append_value.new.out.items c.append_rest.new.out.items _ _ c.from_residual-in_err-append_rest.ensures.0
    (both c.args.out.now.items c.append_answer_head.new.out.items c.append_value.new.out.items _ _
    c.in_ok-append_answer_head.ensures.added c.in_ok-append_value.ensures) c.in_err-append_rest.ensures

pub returns : goal.returns
returns g c =
    let old = c.args.out.now.items in
    let x = c.args.self.now.site in
    let known = c.args.known.now in
    let id = c.args.id.now in
    let us = (asked_state x).ops in
    let k = known_again us known in
    let seen : c.self.inside.site ≡ x = ap (λ (v : SeenNode). v.site) c.self.view_is in
    let held : c.entries-operations.result.now.items ≡ us =
    c.entries-operations.ensures ∙ c.ledger.ensures.entries ∙ ap (λ (y : SeenSite). (state_of y).ops) (c.site.ensures
    ∙ ap without_ids seen) in
    let sent : c.as_slice.result.now ≡ k.sent =
    c.as_slice.ensures.value ∙ c.in_ok-push_operations.ensures
    ∙ ap (λ l. l ++ messages_of c.entries-operations.result.now.items (Operations known.first known.end)) c.new-messages.ensures.items
    ∙ ap (λ (vs : List Shadow). messages_of vs (Operations known.first known.end)) held in
    let reply : c.in_ok-reply.reply ≡ k.reply = c.in_ok-reply.ensures ∙ ap (reply_made known.event) sent in
    let s : c.self.inside.config ≡ x.settings = sym c.self.invariant ∙ ap (λ (y : SeenAsked). y.settings) seen in
    let head = head_text (codes "{\"again\":true,") id in
    let two = both old c.append_answer_head.new.out.items c.append_rest.new.out.items head
    (rest_of_front c.self.inside.config c.bank.result.now c.in_ok-reply.reply c.as_slice-2.result.now)
    c.in_ok-append_answer_head.ensures.added (both c.append_answer_head.new.out.items c.append_value.new.out.items
    c.append_rest.new.out.items _ _ c.in_ok-append_value.ensures c.in_ok-append_rest.ensures) in
    then c.append.result old c.append_rest.new.out.items c.append.new.out.items
    (head ++ rest_of_front c.self.inside.config c.bank.result.now c.in_ok-reply.reply c.as_slice-2.result.now)
    (codes "]}\n") _ two c.append.ensures
    (ap (λ r. (head ++ rest_of_front r c.bank.result.now c.in_ok-reply.reply c.as_slice-2.result.now) ++ codes "]}\n") s
    ∙ ap (λ b. (head ++ rest_of_front x.settings b c.in_ok-reply.reply c.as_slice-2.result.now) ++ codes "]}\n")
    (c.bank.ensures ∙ ap (λ (y : SeenAsked). y.bank) seen)
    ∙ ap (λ r. (head ++ rest_of_front x.settings x.bank r c.as_slice-2.result.now) ++ codes "]}\n") reply
    ∙ ap (λ (ms : List Message). (head ++ rest_of_front x.settings x.bank k.reply ms) ++ codes "]}\n")
    (c.as_slice-2.ensures.value ∙ sym c.as_slice.ensures.value ∙ sent)
    ∙ again_line x.settings x.bank id k c.in_ok-append_answer_head.ensures.id)
