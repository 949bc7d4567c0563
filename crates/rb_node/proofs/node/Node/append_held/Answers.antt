use Rattle.std.proofs.Common.{◌≡◌, ◌++◌, true, false, codes, decimal, length, ap, ◌∙◌}
use Rattle.serde_json.specs.Data.{boolean}
use Rattle.serde_json.specs.Written.{compact_text}
use Rattle.rb_site.specs.Seen.{SeenSite, state_of}
use Rattle.rb_history.proofs.Public.Appended.{both, then}
use Rattle.rb_node.specs.Answers.{SeenNode}
use Rattle.rb_node.specs.Asked.{asked_state, without_ids}
use Rattle.rb_node.proofs.QuestionTexts.{held_parts, held_text, word_of}
use Rattle.rb_node.proofs.node.Node.append_held.Goals as goal
use Rattle.rb_node.proofs.node.Node.append_held.Goals.{then-has_token, else-has_token}

pub returns : goal.returns
returns g c =
    let old = c.args.out.now.items in
    let x = c.args.self.now.site in
    let seen : c.self.inside.site ≡ x = ap (λ (v : SeenNode). v.site) c.self.view_is in
    let at : without_ids c.self.inside.site ≡ without_ids x = ap without_ids seen in
    let count : c.len.result ≡ length (asked_state x).held =
    c.len.ensures ∙ ap (λ l. length l) c.inbox.ensures.held
    ∙ ap (λ (y : SeenSite). length (state_of y).held) (c.site-2.ensures ∙ at) in
    let me : c.me.result ≡ x.me = c.me.ensures.same ∙ ap (λ (y : SeenSite). y.me) (c.site-3.ensures ∙ at) in
    let has : c.view-has_token.result.held ≡ (asked_state x).token.held =
    c.view-has_token.ensures.shows.held ∙ ap (λ t. t.held) c.token.ensures.token
    ∙ ap (λ (y : SeenSite). (state_of y).token.held) (c.site.ensures ∙ at) in
    let word = c.if-has_token.append.now in
    let said : word ≡ compact_text (boolean c.view-has_token.result.held) = elim c.if-has_token.branch [
      | then-has_token w ↦ word_of c.view-has_token.result.held true word w.if-has_token.true (ap (λ b. b.now) w.append-is)
      | else-has_token w ↦ word_of c.view-has_token.result.held false word w.if-has_token.false (ap (λ b. b.now) w.append-is)
    ] in
    let first = codes ",\"held\":" ++ (decimal c.len.result ++ codes ",\"site\":") in
    let second = codes "" ++ (decimal c.me.result ++ codes ",\"token\":") in
    let two = both old c.append_number.new.out.items c.append_number-2.new.out.items first second c.in_ok-append_number.ensures
    c.in_ok-append_number-2.ensures in
    then c.append.result old c.append_number-2.new.out.items c.append.new.out.items (first ++ second) word _ two c.append.ensures
    (held_parts (decimal c.len.result) (decimal c.me.result) word
    ∙ ap (λ n. held_text (decimal n) (decimal c.me.result) word) count
    ∙ ap (λ n. held_text (decimal (length (asked_state x).held)) (decimal n) word) me
    ∙ ap (held_text (decimal (length (asked_state x).held)) (decimal x.me)) (said ∙ ap (λ b. compact_text (boolean b)) has))
