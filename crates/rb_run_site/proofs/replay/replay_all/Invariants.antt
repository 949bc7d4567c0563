use Rattle.std.proofs.Common.{length}
use Rattle.rb_run_site.proofs.Replayed.{Replaying}
use Rattle.rb_run_site.proofs.replay.replay_all.Given as goal

abbrev pub invariant-loop-line : goal.invariant-loop-line
invariant-loop-line g l = Replaying l.initial.node.site l.node.site l.lines l.rest l.initial.left l.left l.number l.initial.sends.items
    l.sends.items

abbrev pub decreases-loop-line : goal.decreases-loop-line
decreases-loop-line g l = length l.rest
