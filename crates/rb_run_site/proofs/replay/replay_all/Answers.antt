use Rattle.std.proofs.Common.{◌+◌, ◌==◌, refl, subst, sym}
use Rattle.rb_run_site.proofs.Replayed.{Replaying, one_more}
use Rattle.rb_run_site.proofs.replay.replay_all.Goals as goal

pub loop-line-preserved : goal.loop-line-preserved
loop-line-preserved g c =
    let next = one_more c.args.node.now.site c.loop-line.node.site c.replay_one.new.node c.args.lines.now c.loop-line.rest.now
    c.in-Some.line.now c.in-Some.later.now c.args.skipped c.loop-line.left c.loop-line.number (c.loop-line.left == 0) c.args.sends.now.items
    c.loop-line.sends.items c.replay_one.new.sends.items c.loop-line.invariant c.in-Some.ensures c.in_ok-replay_one.ensures refl in
    subst (λ n. Replaying c.args.node.now.site c.replay_one.new.node.site c.args.lines.now c.in-Some.later.now c.args.skipped n
    (c.loop-line.number + 1) c.args.sends.now.items c.replay_one.new.sends.items) (sym c.saturating_sub-left.ensures) next
