use Rattle.std.proofs.Common.{append_assoc}
use Rattle.rb_history.proofs.Plain.{name_written}
use Rattle.rb_history.proofs.fast.name.parse_name_between.Goals as goal

pub returns : goal.returns
returns c =
    let named = name_written c.in_ok-name.name _ _ c.in_ok-name.ensures.0 c.in_ok-name.ensures.1 in
    (c.in_ok-name.ensures.0, rw (c.in_ok-parse_prefix.ensures, named, c.in_ok-parse_prefix-2.ensures) (simp append_assoc))
