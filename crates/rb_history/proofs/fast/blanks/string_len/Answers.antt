use Rattle.std.proofs.Common.{length, length-drop, ap, arith}
use Rattle.std.proofs.lemmas.List.{take_rest}
use Rattle.rb_history.proofs.Blanks.{string_at}
use Rattle.rb_history.proofs.fast.blanks.string_len.Goals as goal

pub returns : goal.returns
returns c =
    let text = c.args.text.now in
    let read = c.in_ok-len in
    let rest = take_rest text 1 in
    let left = length-drop 1 text in (
      omega arith,
      omega (arith, read.ensures.0, left, ap length rest),
      string_at text _ read.len rest c.requires.some c.requires.quote read.ensures.0 read.ensures.1 read.ensures.2,
    )
