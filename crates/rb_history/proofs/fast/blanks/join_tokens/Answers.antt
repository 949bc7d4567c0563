use Rattle.std.proofs.Common.{arith}
use Rattle.rb_history.proofs.Blanks.{all_joined, joined_read, joined_whole}
use Rattle.rb_history.proofs.fast.blanks.join_tokens.Goals as goal

pub loop-left-preserved : goal.loop-left-preserved
loop-left-preserved c =
    let old = c.loop-left.text.items in
    let new = c.join_some.new.joined.items in
    let left = c.loop-left.left.now in
    let some = c.in_ok-join_some in
    record {
      whole = joined_whole old new left some.field-0.now some.ensures.joins c.loop-left.invariant.whole;
      read = joined_read old new left some.field-0.now c.skip_blanks-left-in-loop-left.result.now c.args.line.now some.ensures.joins
          c.loop-left.invariant.whole c.skip_blanks-left-in-loop-left.ensures.same c.loop-left.invariant.read;
    }

pub returns : goal.returns
returns c = all_joined c.loop-left.text.items c.loop-left.left.now c.args.line.now (omega arith) c.loop-left.invariant.read
