use Rattle.std.proofs.Common.{refl, sym, true≢false, ◌∙◌}
use Rattle.rb_node.proofs.Answered.{known_added}
use Rattle.rb_node.proofs.node.Node.append_kept.Goals as goal

pub returns-then-is : goal.returns-then-is
returns-then-is g c = known_added c.append_made.result c.args.self.now.site c.args.id.now c.args.event.now c.args.known.now
    c.args.out.now.items c.append_made.new.out.items _ c.requires (λ _. refl) (λ other. absurd (other (c.is.ensures.0 c.if-is.true)))
    c.append_made.ensures

pub returns : goal.returns
returns g c = known_added c.append_refusal.result c.args.self.now.site c.args.id.now c.args.event.now c.args.known.now
    c.args.out.now.items c.append_refusal.new.out.items _ c.requires
    (λ e. absurd (true≢false (sym (c.is.ensures.1 e) ∙ c.if-is.false))) (λ _. refl) c.append_refusal.ensures
