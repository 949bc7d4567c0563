use Rattle.std.proofs.Common.{append_assoc}
use Rattle.rb_history.proofs.Public.Appended.{both, then}
use Rattle.rb_history.proofs.write.append.append_three.Goals as goal

pub returns : goal.returns
returns c =
    let two = both c.args.out.now.items _ _ _ _ c.in_ok-append.ensures c.in_ok-append-2.ensures in
    then _ c.args.out.now.items _ _ _ _ _ two c.append-3.ensures (simp append_assoc)
