-- One message more, until all are there.
use Rattle.std.proofs.Common.{◌≡◌, ◌∙◌, ◌+◌, ◌-◌, ◌<◌, ◌++◌, Some, ap, arith, drop, length, take}
use Rattle.std.specs.Borrow.{Bor}
use Rattle.std.specs.List.{filter_map}
use Rattle.std.specs.Prelude.{map, slice_get}
use Rattle.rb_auditor.specs.MessageLists.{MessageTable, SentTable}
use Rattle.rb_auditor.proofs.Found
use Rattle.rb_auditor.proofs.Positions
use Rattle.rb_auditor.proofs.posted.Posted.add.Goals as goal

pub invariant_of-self-in-loop-place : goal.invariant_of-self-in-loop-place
invariant_of-self-in-loop-place c = Found.there _ _ _ c.loop-place.invariant.0

pub loop-place-preserved : goal.loop-place-preserved
loop-place-preserved c =
    let all = c.loop-place.self-inside.all.now.items in
    let k = c.loop-place.place - c.args.first in
    let many = ap (λ (t : SentTable). length t.all) c.self.view_is in
    let same = ap (λ (b : Bor MessageTable). length b.now.items) c.loop-place.invariant.3 in
    let less : c.loop-place.place < length all = omega (arith, c.requires, many, same, c.loop-place-test.true) in
    let next : k + 1 ≡ c.loop-place.place + 1 - c.args.first = omega (arith, c.loop-place.invariant.1) in
    let start = filter_map (slice_get c.self.inside.all.now.items) c.reserve.new.self.items in (
      Positions.place_next all _ _ start c.args.first k c.loop-place.place (omega (arith, c.loop-place.invariant.1))
          less c.push_reserved.ensures.items c.loop-place.invariant.0
          ∙ ap (λ n. map (λ m. Some m) (start ++ take n (drop c.args.first all))) next,
      omega (arith, c.loop-place.invariant.1),
      omega (arith, c.loop-place.invariant.1, c.loop-place.invariant.2, c.push_reserved.ensures.len, c.push_reserved.ensures.capacity),
      c.loop-place.invariant.3,
    )

pub returns-clause-ok : goal.returns-clause-ok
returns-clause-ok c =
    let all = c.loop-place.self-inside.all.now.items in
    let whole : c.loop-place.place - c.args.first ≡ c.args.count = omega (arith, c.loop-place.invariant.1, c.loop-place-test.false) in
    Found.is _ _ _ c.loop-place.invariant.0
    ∙ ap (λ ps. filter_map (slice_get c.self.inside.all.now.items) ps
    ++ take (c.loop-place.place - c.args.first) (drop c.args.first all)) c.in_ok-reserve.ensures.items
    ∙ ap (λ (t : SentTable). t.items ++ take (c.loop-place.place - c.args.first) (drop c.args.first all)) c.self.view_is
    ∙ ap (λ n. c.args.self.now.items ++ take n (drop c.args.first all)) whole
    ∙ ap (λ (b : Bor MessageTable). c.args.self.now.items ++ take c.args.count (drop c.args.first b.now.items)) c.loop-place.invariant.3
    ∙ ap (λ (t : SentTable). c.args.self.now.items ++ take c.args.count (drop c.args.first t.all)) c.self.view_is
