use Rattle.std.proofs.Common.{length, length-drop, ap, arith}
use Rattle.std.proofs.lemmas.List.{take_rest}
use Rattle.rb_history.proofs.Blanks.{tokens_at}
use Rattle.rb_history.proofs.fast.blanks.find_blank.Goals as goal

pub loop-len-preserved : goal.loop-len-preserved
loop-len-preserved c =
    let text = c.args.text.now in
    let len = c.loop-len.len in
    let more = c.in-Some in
    let rest = take_rest text len in
    let left = length-drop len text in
    record {
      some = omega (arith, more.ensures.0);
      within = omega (arith, more.ensures.1, left, ap length rest);
      whole = tokens_at text _ len more.more rest c.loop-len.invariant.whole more.ensures.2;
    }
