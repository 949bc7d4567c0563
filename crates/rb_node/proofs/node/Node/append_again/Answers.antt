use Rattle.std.proofs.Common.{◌≡◌, ◌++◌, List, ap, sym, subst, ◌∙◌}
use Rattle.rb_shadow.specs.declared.shadow.Shadow.{Shadow}
use Rattle.rb_site.specs.Seen.{SeenSite, state_of}
use Rattle.rb_history.specs.Adds.{Adds}
use Rattle.rb_node.specs.Answers.{SeenNode, sent_line}
use Rattle.rb_node.specs.Asked.{SeenAsked, asked_state, without_ids}
use Rattle.rb_node.specs.Index.{messages_of}
use Rattle.rb_node.proofs.node.Node.append_again.Goals as goal

pub returns : goal.returns
returns g c =
    let site = c.args.self.now.site in
    let sent = c.args.sent in
    let seen : c.self.inside.site ≡ site = ap (λ (v : SeenNode). v.site) c.self.view_is in
    let held : c.entries.result.now.items ≡ (asked_state site).ops =
    c.entries.ensures ∙ c.ledger.ensures.entries ∙ ap (λ (y : SeenSite). (state_of y).ops) (c.site.ensures ∙ ap without_ids seen) in
    let messages : c.as_slice.result.now ≡ messages_of (asked_state site).ops sent =
    c.as_slice.ensures.value ∙ c.in_ok-push_sent.ensures
    ∙ ap (λ l. l ++ messages_of c.entries.result.now.items sent) c.clear.ensures.items
    ∙ ap (λ (us : List Shadow). messages_of us sent) held in
    subst (Adds c.append_sends.result c.args.out.now.items c.append_sends.new.out.items)
    (ap (λ s. sent_line s c.bank.result.now c.as_slice.result.now) (sym c.self.invariant ∙ ap (λ (y : SeenAsked). y.settings) seen)
    ∙ ap (λ k. sent_line site.settings k c.as_slice.result.now) (c.bank.ensures ∙ ap (λ (y : SeenAsked). y.bank) seen)
    ∙ ap (sent_line site.settings site.bank) messages) c.append_sends.ensures
