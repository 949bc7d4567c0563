use Rattle.std.proofs.Common.{◌≡◌, ◌≤◌, take}
use Rattle.rb_branch.specs.Gathered.{receipts_at, receipts_in}
use Rattle.rb_branch.proofs.closed.count_at.Given as goal

abbrev pub invariant-loop-seat : goal.invariant-loop-seat
invariant-loop-seat l = (l.count ≡ receipts_at l.site (take l.seat-index l.seats)) × (l.count ≤ receipts_in (take l.seat-index l.seats))
