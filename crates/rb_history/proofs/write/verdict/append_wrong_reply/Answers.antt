use Rattle.rb_history.proofs.Words.{append_assoc, escape_byte}
use Rattle.rb_history.proofs.Public.Appended.{then}
use Rattle.rb_history.proofs.write.verdict.append_wrong_reply.Goals as goal

pub returns : goal.returns
unfolding escape_byte
returns c =
    then _ c.args.out.now.items _ _ _ _ _ c.in_ok-append_number.ensures c.append_number-2.ensures (simp append_assoc)
