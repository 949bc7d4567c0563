use Rattle.std.proofs.Common.{length, length-drop, ap, sym, ◌∙◌, arith}
use Rattle.std.proofs.lemmas.List.{take_rest}
use Rattle.rb_history.proofs.Blanks.{blank_at}
use Rattle.rb_history.proofs.fast.blanks.skip_blanks.Goals as goal

pub loop-left-preserved : goal.loop-left-preserved
loop-left-preserved c =
    let left = c.loop-left.left.now in
    let rest = take_rest left 1 in
    let shorter = length-drop 1 left in
    record {
      same = blank_at left _ rest (omega arith) (sym c.is_blank.ensures ∙ c.if-is_blank.true) ∙ c.loop-left.invariant.same;
      shorter = omega (arith, shorter, ap length rest, c.loop-left.invariant.shorter);
    }
