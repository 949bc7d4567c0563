use Rattle.std.proofs.Common.{◌++◌, List, ℕ, codes, decimal, length, ap, sym, ◌∙◌}
use Rattle.serde_json.specs.Data.{boolean}
use Rattle.serde_json.specs.Written.{compact_text}
use Rattle.rb_shadow.specs.Operations.{clock_of}
use Rattle.rb_history.specs.Entries.{deps_json}
use Rattle.rb_history.proofs.Public.Appended.{both, failed, then}
use Rattle.std.proofs.lemmas.List.{length-map}
use Rattle.rb_history.specs.Ids.{AskedEntry}
use Rattle.rb_node.specs.Asked.{asked_state, without_ids}
use Rattle.rb_node.proofs.QuestionTexts.{about_line, applied_text, held_text}
use Rattle.rb_node.proofs.node.Node.append_about.Goals as goal

pub returns-in_err-append_held : goal.returns-in_err-append_held
returns-in_err-append_held g c = failed c.from_residual-in_err-append_held.result c.args.out.now.items c.append_applied.new.out.items
    c.append_held.new.out.items _ _ c.from_residual-in_err-append_held.ensures.0 c.in_ok-append_applied.ensures c.in_err-append_held.ensures

pub returns : goal.returns
returns g c =
    let old = c.args.out.now.items in
    let x = c.args.self.now.site in
    let first_of : ℕ → List ℕ = λ n. applied_text (compact_text (deps_json x.settings.version (clock_of (asked_state x).ops))) (decimal n)
    (decimal (asked_state x).token.epoch) in
    let first = first_of (length x.asked) in
    let second = held_text (decimal (length (asked_state x).held)) (decimal x.me) (compact_text (boolean (asked_state x).token.held)) in
    let two = both old c.append_applied.new.out.items c.append_held.new.out.items first second c.in_ok-append_applied.ensures
    c.in_ok-append_held.ensures in
    then c.append.result old c.append_held.new.out.items c.append.new.out.items (first ++ second) (codes "}},\"sends\":[],\"then\":[]}\n") _
    two c.append.ensures (ap (λ n. (first_of n ++ second) ++ codes "}},\"sends\":[],\"then\":[]}\n")
    (sym (length-map x.asked (λ (y : AskedEntry). y.entry))) ∙ about_line x.bank (without_ids x))
