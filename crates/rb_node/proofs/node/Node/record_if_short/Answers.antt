use Rattle.std.proofs.Common.{◌≡◌, ap, sym, ◌∙◌, arith}
use Rattle.rb_history.proofs.Public.Appended.{front_stays}
use Rattle.rb_node.specs.Answers.{SeenNode}
use Rattle.rb_node.specs.Asked.{SeenAsked}
use Rattle.rb_node.proofs.Failed.{kept}
use Rattle.rb_node.proofs.Recorded.{recorded-short}
use Rattle.rb_node.proofs.node.Node.record_if_short.Goals as goal

pub returns-in_err-append : goal.returns-in_err-append
returns-in_err-append g c = kept c.from_residual-in_err-append.result _ c.from_residual-in_err-append.ensures.0
    (front_stays c.args.entries.now.items c.append_line_with.new.out.items c.append.new.out.items _ c.in_ok-append_line_with.ensures
    c.in_err-append.ensures)

pub returns : goal.returns
returns g c =
    let old = c.args.self.now.site in
    let seen : c.self.inside.site ≡ old = ap (λ (v : SeenNode). v.site) c.self.view_is in
    recorded-short c.record_unchanging.result c.self.inside.site old c.record_unchanging.new.self c.args.entry.now c.self.inside.config
    c.me.result c.args.self.now.sent _ c.args.entries.now.items c.append_line_with.new.out.items c.append.new.out.items seen
    (ap (λ (v : SeenNode). v.sent) c.self.view_is) (sym c.self.invariant ∙ ap (λ (y : SeenAsked). y.settings) seen) c.me.ensures
    c.in_ok-append_line_with.ensures (omega arith) c.in_ok-append.ensures c.record_unchanging.ensures.ok
