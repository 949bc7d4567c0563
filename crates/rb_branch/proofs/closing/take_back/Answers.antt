use Rattle.std.proofs.Common.{◌+◌, ◌∙◌, ap, rules}
use Rattle.std.specs.Vec.Iter.{into_iter_items}
use Rattle.rb_branch.proofs.Reports.{given-push, receipts_in-push}
use Rattle.rb_branch.proofs.closing.take_back.Goals as goal

pub loop-seat-preserved : goal.loop-seat-preserved
loop-seat-preserved g c = record {
  next = tt;
  finite = tt;
  all = given-push c.loop-seat.given.items c.push_reserved.new.self.items (into_iter_items c.loop-seat.seat-iterator)
      (into_iter_items c.next.new.self) c.args.seats.items c.in-Some.seat c.give_back-own.result.0 c.loop-seat.invariant.all
      c.in-Some.ensures.steps.0 c.push_reserved.ensures.items c.give_back-own.ensures.given;
  parts = search rules;
  amount = receipts_in-push c.loop-seat.given.items c.push_reserved.new.self.items c.in-Some.seat c.give_back-own.result.0
      c.args.all.amount c.loop-seat.all.amount c.merge.new.self.amount c.push_reserved.ensures.items c.give_back-own.ensures.given
      c.loop-seat.invariant.amount
      (c.merge.ensures.amount ∙ ap (λ n. c.loop-seat.all.amount + n) c.give_back-own.ensures.share.1);
  few = search rules;
  room = search rules;
}
