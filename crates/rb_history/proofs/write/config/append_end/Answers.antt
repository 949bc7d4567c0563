use Rattle.std.proofs.Common.{append_assoc}
use Rattle.rb_history.proofs.Public.Appended.{then}
use Rattle.rb_history.proofs.write.config.append_end.Goals as goal

pub returns : goal.returns
returns c =
    then _ c.args.out.now.items _ _ _ _ _ c.in_ok-append_number.ensures c.append_number-2.ensures (simp append_assoc)
