use Rattle.std.proofs.Common.{append_assoc}
use Rattle.rb_history.proofs.Public.Appended.{both, then}
use Rattle.rb_history.proofs.write.shadow.append_deps.Goals as goal

pub returns : goal.returns
returns c =
    let two = both c.args.out.now.items _ _ _ _ c.in_ok-append.ensures c.in_ok-append_counts.ensures in
    then _ c.args.out.now.items _ _ _ _ _ two c.append_number.ensures (simp append_assoc)
