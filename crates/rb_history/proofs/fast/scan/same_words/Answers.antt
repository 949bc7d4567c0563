use Rattle.rb_history.proofs.Words.{arith, w64, to_le_bytes, w32}
use Rattle.rb_history.proofs.Scanned.{same_many_more}
use Rattle.rb_history.proofs.fast.scan.same_words.Goals as goal

pub loop-len-preserved : goal.loop-len-preserved
loop-len-preserved c =
    let here = c.word_at.ensures in
    let there = c.word_at-in-loop-len.ensures in record {
      within = omega arith;
      same = same_many_more c.args.text.now c.args.front.now c.loop-len.len 8 (to_le_bytes w64) _ _ here there c.if-word_at.false
          c.loop-len.invariant.same;
    }

pub returns-else-half_word_at : goal.returns-else-half_word_at
returns-else-half_word_at c =
    let here = c.half_word_at.ensures in
    let there = c.half_word_at-then-front-len-ge4.ensures in (
      omega arith,
      same_many_more c.args.text.now c.args.front.now c.loop-len.len 4 (to_le_bytes w32) _ _ here there c.if-half_word_at.false
          c.loop-len.invariant.same,
    )
