use Rattle.std.proofs.Common.{arith, refl}
use Rattle.std.proofs.lemmas.List.Edits.{length-remove}
use Rattle.rb_branch.proofs.Recorded.{received}
use Rattle.rb_branch.proofs.Served.{refuses_next, refuses_received, served_received, served_refused, serves_none, serves_same}
use Rattle.rb_branch.proofs.receiving.receive_at.Goals as goal

pub returns-in_err-_made-clause-served : goal.returns-in_err-_made-clause-served
returns-in_err-_made-clause-served g c = serves_same _ _ _ _ _ _ (serves_none _ _) c.in_err-_made.ensures.err.1 refl

pub returns-then-found_full-clause-served : goal.returns-then-found_full-clause-served
returns-then-found_full-clause-served g c =
    let one = received c.in_ok-_made.ensures.ok in
    (1, served_refused _ _ _ c.args.index _ c.message-message.result c.message-message.ensures.at c.message-message.ensures.sent one)

pub returns-then-found_full-clause-refused : goal.returns-then-found_full-clause-refused
returns-then-found_full-clause-refused g c =
    let one = received c.in_ok-_made.ensures.ok in
    refuses_next c.args.index _ c.args.inlet.now c.args.seat.now c.record.new.seat c.message-message.result c.found_full.result
    c.message-message.ensures.at one c.found_full.ensures c.if-found_full.true

pub returns-clause-refused : goal.returns-clause-refused
returns-clause-refused g c =
    let one = received c.in_ok-_made.ensures.ok in
    refuses_received c.args.index _ c.args.inlet.now c.let_go.new.self c.args.seat.now c.record.new.seat c.message-message.result
    one c.let_go.ensures

pub returns-clause-served : goal.returns-clause-served
returns-clause-served g c =
    let one = received c.in_ok-_made.ensures.ok in (
      1,
      served_received _ _ _ _ c.args.index _ c.message-message.result c.found_full.result c.message-message.ensures.at
          c.message-message.ensures.sent one c.found_full.ensures c.if-found_full.false c.let_go.ensures,
    )

pub returns-clause-fewer : goal.returns-clause-fewer
returns-clause-fewer g c =
    let less = length-remove c.args.inlet.now c.args.index c.requires.within in
    rw c.let_go.ensures (omega (arith, less))
