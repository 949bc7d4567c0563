use Rattle.std.proofs.Common.{◌≡◌, ◌+◌, ◌≤◌, ◌++◌, vec_len}
use Rattle.std.specs.Vec.{vec_capacity}
use Rattle.std.specs.Vec.Iter.{into_iter_items}
use Rattle.rb_branch.specs.Gathered.{receipts_in}
use Rattle.rb_branch.proofs.closing.take_back.Given as goal

abbrev pub invariant-loop-seat : goal.invariant-loop-seat
invariant-loop-seat g l = record {
  next : (goal.iterator-loop-seat g).can_next l.seat-iterator;
  finite : (goal.iterator-loop-seat g).is_finite l.seat-iterator;
  all : l.given.items ++ into_iter_items l.seat-iterator ≡ l.fn.seats.items;
  parts : l.all.parts ≡ l.fn.all.parts + vec_len l.given;
  amount : l.all.amount ≡ l.fn.all.amount + receipts_in l.given.items;
  few : l.all.parts ≤ g.R.Ledger.parts;
  room : vec_len l.fn.seats ≤ vec_capacity l.given;
}
