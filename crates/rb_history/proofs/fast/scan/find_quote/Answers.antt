use Rattle.std.proofs.Common.{arith}
use Rattle.rb_history.proofs.Scanned.{one_more}
use Rattle.rb_history.proofs.fast.scan.find_quote.Goals as goal

pub loop-len-preserved : goal.loop-len-preserved
loop-len-preserved c = record {
  within = omega arith;
  plain = one_more c.args.text.now c.loop-len.len (omega arith) c.loop-len.invariant.plain (λ e. omega arith) (λ e. omega arith)
      (omega arith);
}
