use Rattle.std.proofs.Common.{◌≡◌, refl, ap, sym, ◌∙◌}
use Rattle.rb_node.specs.Answers.{SeenNode}
use Rattle.rb_node.specs.Asked.{SeenAsked}
use Rattle.rb_node.proofs.Recorded.{noted-line, noted-short}
use Rattle.rb_node.proofs.node.Node.note.Goals as goal

pub returns-then-not-recorded : goal.returns-then-not-recorded
returns-then-not-recorded g c = noted-short _ c.record_if_short.result c.args.recorded c.args.self.now.site
    c.record_if_short.new.self.site c.args.id.now c.args.entry.now c.args.entries.now.items c.record_if_short.new.entries.items
    c.if-not-recorded.true c.record_if_short.ensures

pub returns : goal.returns
returns g c =
    let old = c.args.self.now.site in
    let seen : c.self.inside.site ≡ old = ap (λ (v : SeenNode). v.site) c.self.view_is in
    noted-line c.append.result c.args.recorded old old c.args.id.now c.args.entry.now
    c.self.inside.config c.me.result c.args.self.now.sent c.args.self.now.sent c.args.entries.now.items
    c.append_recorded.new.out.items c.append.new.out.items
    (sym c.if-not-recorded.false) refl refl
    (sym c.self.invariant ∙ ap (λ (y : SeenAsked). y.settings) seen) c.me.ensures c.in_ok-append_recorded.ensures c.append.ensures
