use Rattle.std.proofs.Common.{◌≡◌, ◌+◌, ◌≤◌, vec_len}
use Rattle.std.specs.Vec.{vec_capacity}
use Rattle.rb_branch.proofs.closing.open_desks.Given as goal

abbrev pub invariant-loop-me : goal.invariant-loop-me
invariant-loop-me g l = (l.rest.parts + l.me ≡ l.sites) × (l.rest.amount ≡ 0) × (vec_len l.desks ≡ l.me) × (l.sites ≤ vec_capacity l.desks)
