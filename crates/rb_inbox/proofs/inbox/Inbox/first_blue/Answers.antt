use Rattle.std.proofs.Common.{arith}
use Rattle.rb_inbox.proofs.First.{blue_found, blue_passed}
use Rattle.rb_inbox.proofs.inbox.Inbox.first_blue.Goals as goal

pub returns-in-Some-clause-some : goal.returns-in-Some-clause-some
returns-in-Some-clause-some c =
    blue_found _ _ _ _ _ c.in-Some.blue.now c.row.ensures.held c.row.ensures.row c.row.ensures.numbered c.loop-index.invariant.low
    (omega arith) c.loop-index.invariant.none c.in-Some.ensures.some

pub loop-index-preserved : goal.loop-index-preserved
loop-index-preserved c = record {
  low = let l = c.loop-index.invariant.low in omega arith;
  none = blue_passed _ _ _ _ c.row.ensures.held c.loop-index.invariant.none c.in_default.ensures.none;
}
