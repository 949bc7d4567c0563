use Rattle.std.proofs.Common.{◌≡◌, ◌++◌, codes, decimal, length, ap, sym, ◌∙◌}
use Rattle.serde_json.specs.Written.{compact_text}
use Rattle.rb_shadow.specs.Operations.{clock_of}
use Rattle.rb_shadow.specs.declared.deps.Deps.{Deps}
use Rattle.rb_site.specs.Seen.{SeenSite, state_of}
use Rattle.rb_history.specs.Entries.{deps_json}
use Rattle.rb_history.proofs.Public.Appended.{both, then}
use Rattle.std.proofs.lemmas.List.{length-map}
use Rattle.rb_history.specs.Ids.{AskedEntry}
use Rattle.rb_node.specs.Answers.{SeenNode}
use Rattle.rb_node.specs.Asked.{SeenAsked, asked_state, without_ids}
use Rattle.rb_node.proofs.QuestionTexts.{applied_parts, applied_text}
use Rattle.rb_node.proofs.node.Node.append_applied.Goals as goal

pub returns : goal.returns
returns g c =
    let old = c.args.out.now.items in
    let x = c.args.self.now.site in
    let seen : c.self.inside.site ≡ x = ap (λ (v : SeenNode). v.site) c.self.view_is in
    let at : without_ids c.self.inside.site ≡ without_ids x = ap without_ids seen in
    let clock : c.entries.result.now ≡ clock_of (asked_state x).ops =
    c.entries.ensures ∙ c.clock.ensures.clock
    ∙ ap clock_of (c.ledger.ensures.entries ∙ ap (λ (y : SeenSite). (state_of y).ops) (c.site.ensures ∙ at)) in
    let version : c.version.result ≡ x.settings.version =
    c.version.ensures.same ∙ sym (ap (λ s. s.version) c.self.invariant) ∙ ap (λ (y : SeenAsked). y.settings.version) seen in
    let count : c.len.result ≡ length x.asked =
    c.len.ensures ∙ ap (λ (y : SeenSite). length y.entries) (c.site-2.ensures ∙ at) ∙ length-map x.asked (λ (y : AskedEntry). y.entry) in
    let epoch : c.epoch.result ≡ (asked_state x).token.epoch =
    c.epoch.ensures ∙ ap (λ t. t.epoch) c.token.ensures.token
    ∙ ap (λ (y : SeenSite). (state_of y).token.epoch) (c.site-3.ensures ∙ at) in
    let deps = compact_text (deps_json c.version.result c.entries.result.now) in
    let now = compact_text (deps_json x.settings.version (clock_of (asked_state x).ops)) in
    let first = codes "{\"reply\":{\"about\":{\"applied\":" in
    let second = codes ",\"entries\":" ++ (decimal c.len.result ++ codes ",\"epoch\":") in
    let two = both old c.append.new.out.items c.append_deps.new.out.items first deps c.in_ok-append.ensures c.in_ok-append_deps.ensures in
    let three = both old c.append_deps.new.out.items c.append_number.new.out.items (first ++ deps) second two
    c.in_ok-append_number.ensures in
    then c.append_number-2.result old c.append_number.new.out.items c.append_number-2.new.out.items ((first ++ deps) ++ second)
    (codes "" ++ (decimal c.epoch.result ++ codes "")) _ three c.append_number-2.ensures
    (applied_parts deps (decimal c.len.result) (decimal c.epoch.result)
    ∙ ap (λ v. applied_text (compact_text (deps_json v c.entries.result.now)) (decimal c.len.result) (decimal c.epoch.result)) version
    ∙ ap (λ (d : Deps). applied_text (compact_text (deps_json x.settings.version d)) (decimal c.len.result) (decimal c.epoch.result)) clock
    ∙ ap (λ n. applied_text now (decimal n) (decimal c.epoch.result)) count
    ∙ ap (λ n. applied_text now (decimal (length x.asked)) (decimal n)) epoch)
