use Rattle.rb_history.proofs.Words.{◌≡◌, length, take, ap, arith, ◌∙◌, take_all}
use Rattle.rb_history.proofs.Scanned.{same_more}
use Rattle.rb_history.proofs.fast.scan.begins.Goals as goal

pub loop-len-preserved : goal.loop-len-preserved
loop-len-preserved c = record {
  within = omega arith;
  same = same_more c.args.text.now c.args.front.now c.loop-len.len (omega arith) (omega arith) (omega arith) c.loop-len.invariant.same;
}

pub returns : goal.returns
returns c = λ yes.
    let text = c.args.text.now in
    let front = c.args.front.now in
    let whole : length front ≡ c.loop-len.len = omega arith in
    (omega arith, ap (λ k. take k text) whole ∙ c.loop-len.invariant.same ∙ take_all c.loop-len.len front (omega arith))
