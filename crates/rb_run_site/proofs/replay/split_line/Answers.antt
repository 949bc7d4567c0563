use Rattle.std.proofs.Common.{◌+◌, sym, subst, take}
use Rattle.std.proofs.lemmas.List.{take_rest}
use Rattle.rb_run_site.specs.Replays.{IsSplit}
use Rattle.rb_run_site.proofs.Split.{none_there, split_there}
use Rattle.rb_run_site.proofs.replay.split_line.Goals as goal

pub returns-in_err-n : goal.returns-in_err-n
returns-in_err-n c = rw c.from_residual.ensures (none_there c.args.lines.now (sym c.in_err-n.ensures))

pub returns : goal.returns
returns c =
    let l = c.args.lines.now in
    let n = c.in_ok-n.n in
    subst (IsSplit l (take n l)) (sym (take_rest l (n + 1))) (split_there l n c.requires (sym c.in_ok-n.ensures))
