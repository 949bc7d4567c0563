use Rattle.std.proofs.Common.{◌≡◌, ◌-◌, ◌++◌, codes, decimal, length, ap, subst, ◌∙◌}
use Rattle.rb_site.specs.Events.{first_site}
use Rattle.rb_site.specs.Seen.{SeenSite}
use Rattle.rb_history.specs.Values.{number_json, one_json}
use Rattle.rb_history.proofs.Public.Appended.{then}
use Rattle.rb_node.specs.Answers.{SeenNode, line_of}
use Rattle.rb_node.specs.Asked.{SeenAsked, asked_state, without_ids}
use Rattle.rb_node.specs.Index.{lines_again}
use Rattle.rb_node.specs.LineAnswers.{reply_only}
use Rattle.rb_node.specs.Resends.{count_again, resent, senders, sent_again}
use Rattle.rb_node.proofs.QuestionTexts.{resent_line}
use Rattle.rb_node.proofs.node.Node.append_resent.Goals as goal

pub returns : goal.returns
returns g c =
    let old = c.args.out.now.items in
    let site = without_ids c.args.self.now.site in
    let bank = c.args.self.now.site.bank in
    let most = c.args.most in
    let since = c.sent_since-entries.result.now in
    let first = c.saturating_sub-skipped.result in
    let us = (asked_state c.args.self.now.site).ops in
    let seen : c.self.inside.site ≡ c.args.self.now.site = ap (λ (v : SeenNode). v.site) c.self.view_is in
    let skipped : first ≡ length site.entries - most =
    c.saturating_sub-skipped.ensures ∙ ap (λ n. n - most) (c.len.ensures
    ∙ ap (λ (y : SeenSite). length y.entries) (c.site.ensures ∙ ap without_ids seen)) in
    let lines : lines_again site.settings bank us since ≡ sent_again bank most site =
    subst (λ (y : SeenAsked). lines_again y.settings y.bank (asked_state y).ops since
    ≡ resent y.settings y.bank (first_site y.me) first (without_ids y).entries) seen c.sent_since-entries.ensures.lines
    ∙ ap (λ k. resent site.settings bank (first_site site.me) k site.entries) skipped in
    let count : length since ≡ count_again most site =
    c.sent_since-entries.ensures.count
    ∙ ap (λ (y : SeenAsked). length (senders y.settings (first_site y.me) first (without_ids y).entries)) seen
    ∙ ap (λ k. length (senders site.settings (first_site site.me) k site.entries)) skipped in
    then c.append_number.result old c.append_all_again.new.out.items c.append_number.new.out.items
    (lines_again site.settings bank us since)
    (codes "{\"reply\":{\"resent\":" ++ (decimal (length since) ++ codes "},\"sends\":[],\"then\":[]}\n")) _
    c.in_ok-append_all_again.ensures c.append_number.ensures
    (ap (λ l. l ++ (codes "{\"reply\":{\"resent\":" ++ (decimal (length since) ++ codes "},\"sends\":[],\"then\":[]}\n"))) lines
    ∙ ap (λ l. sent_again bank most site ++ l) (resent_line (length since)
    ∙ ap (λ n. line_of (reply_only (one_json (codes "resent") (number_json n)))) count))
