-- The line is in this file.
use Rattle.std.proofs.Common.{◌∙◌, ap, arith, sym}
use Rattle.rbbank.proofs.PlacesInFiles.{at_end, at_file, found}
use Rattle.rbbank.proofs.joined.Joined.place_of.Goals as goal

pub returns-then-left-count : goal.returns-then-left-count
returns-then-left-count c =
    let counts = c.args.self.now.counts.items in
    let file = c.loop-file.file in
    let at = at_file counts file c.loop-file.left c.index-count.result.now (omega (arith, c.loop-file-test.true, c.len-file-end.ensures))
    c.index-count.ensures c.if-left-count.true in
    let is = c.loop-file.invariant ∙ at ∙ ap (λ line. (file, line)) (sym c.own_number.ensures) in
    λ files joined some few less. found files counts c.args.line file c.own_number.result joined.counts is some few less

pub returns : goal.returns
returns c =
    let counts = c.args.self.now.counts.items in
    let at = at_end counts c.loop-file.file c.loop-file.left (omega (arith, c.loop-file-test.false, c.len-file-end.ensures)) in
    let is = c.loop-file.invariant ∙ at in
    λ files joined some few less. found files counts c.args.line 0 c.loop-file.left joined.counts is some few less
