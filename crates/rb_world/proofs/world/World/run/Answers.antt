-- One event more.
use Rattle.std.proofs.Common.{◌∙◌, ap, arith}
use Rattle.rb_world.specs.Laws.{next_reply, next_world}
use Rattle.rb_world.proofs.Stepping.{run_more}
use Rattle.rb_world.proofs.world.World.run.Goals as goal

pub loop-answered-preserved : goal.loop-answered-preserved
loop-answered-preserved c = (
  rw c.push_reserved.ensures.items (run_more c.args.self.now c.args.events.now c.loop-answered.answered _ c.loop-answered.self
      c.answer.new.self c.loop-answered.replies.items c.answer.new.reply c.loop-answered-test.true c.loop-answered.invariant.0
      ((c.in-Ok.ensures.ok).1 ∙ ap (next_world c.loop-answered.self) c.index-events-answered.is) ((c.in-Ok.ensures.ok).0
      ∙ ap (next_reply c.loop-answered.self) c.index-events-answered.is)),
  omega arith,
  omega arith,
)
