-- So far the events below were answered, and there is spare capacity for the other replies.
use Rattle.std.proofs.Common.{◌≡◌, ◌≤◌, length, vec_len, vec_capacity}
use Rattle.rb_world.proofs.Stepping.{IsRunSoFar}
use Rattle.rb_world.proofs.world.World.run.Given as goal

abbrev pub invariant-loop-answered : goal.invariant-loop-answered
invariant-loop-answered l =
    IsRunSoFar l.initial.self l.events l.answered l.self l.replies.items
    × (vec_len l.replies ≡ l.answered)
    × (length l.events ≤ vec_capacity l.replies)
